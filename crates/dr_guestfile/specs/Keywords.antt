-- The words that a line may begin with.
use Rattle.std.specs.Prelude.{ℕ, List, [], ◌∷◌, Option, None, codes, find}
use Rattle.std.specs.Str.{bytes_eq}
use Rattle.dr_guestfile.specs.declared.keyword.Keyword.{Keyword}
use Rattle.dr_guestfile.specs.declared.keyword.Keyword.TheVariants.{Dirtyguest, Ring, Reserve}
use Rattle.dr_guestfile.specs.declared.keyword.Keyword.TheVariants.{Buffer, Pace, Threshold, Rounds}
use Rattle.dr_guestfile.specs.declared.keyword.Keyword.TheVariants.{Quota, Slot, Vcpu, Write, Fill}
use Rattle.dr_guestfile.specs.declared.keyword.Keyword.TheVariants.{Read, Add, Store, Nap, Rep, End}
use Rattle.dr_guestfile.specs.declared.keyword.Keyword.TheVariants.{Halt}

-- how a keyword is written
abbrev pub spelling : Keyword → List ℕ
spelling Dirtyguest = codes "dirtyguest"
spelling Ring = codes "ring"
spelling Reserve = codes "reserve"
spelling Buffer = codes "buffer"
spelling Pace = codes "pace"
spelling Threshold = codes "threshold"
spelling Rounds = codes "rounds"
spelling Quota = codes "quota"
spelling Slot = codes "slot"
spelling Vcpu = codes "vcpu"
spelling Write = codes "w"
spelling Fill = codes "f"
spelling Read = codes "r"
spelling Add = codes "a"
spelling Store = codes "s"
spelling Nap = codes "nap"
spelling Rep = codes "rep"
spelling End = codes "end"
spelling Halt = codes "halt"

-- all keywords
abbrev pub keywords : List Keyword
keywords =
    Dirtyguest ∷ Ring ∷ Reserve ∷ Buffer ∷ Pace ∷ Threshold ∷ Rounds ∷ Quota ∷ Slot ∷ Vcpu
    ∷ Write ∷ Fill ∷ Read ∷ Add ∷ Store ∷ Nap ∷ Rep ∷ End ∷ Halt ∷ []

-- the keyword that is spelled so
abbrev pub keyword_of : List ℕ → Option Keyword
keyword_of word = find (λ keyword. bytes_eq (spelling keyword) word) keywords

-- the keyword that a line of these words begins with
abbrev pub first_keyword : List (List ℕ) → Option Keyword
first_keyword [] = None
first_keyword (word ∷ words) = keyword_of word
