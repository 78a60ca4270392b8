-- Reading slot lines one after the other, as a loop does.
use Rattle.std.proofs.Common.{◌≡◌, ℕ, true, false, List, [], ◌∷◌, ◌++◌, Result, Ok, Err, refl, sym, ap, ◌∙◌}
use Rattle.std.specs.Prelude.{codes}
use Rattle.dr_types.specs.declared.fault.FileFault.{FileFault}
use Rattle.dr_types.specs.declared.fault.FileFault.TheVariants as fault
use Rattle.dr_types.specs.declared.guest.SlotRow.{SlotRow}
use Rattle.dr_guestfile_lines.specs.declared.lines.Line.{Line}
use Rattle.dr_guestfile_lines.specs.Input.{Input}
use Rattle.dr_guestfile_lines.specs.Reading.{next_begins, next_number}
use Rattle.dr_guestfile.specs.SlotLines.{slot_of, admitted, some_slots, slots_from}

abbrev Answer : Type 0
Answer = Result (List SlotRow × Input) FileFault

-- the input of these lines
abbrev pub input : List Line → ℕ → Input
input lines past = record { lines = lines; past = past }

pub goes_on : (version rounds : ℕ) (rows : List SlotRow) (whole rest : Input) (line : Line) (row : SlotRow) (total : Answer)
    → next_begins (codes "slot") whole.lines ≡ true → whole ≡ record { lines = line ∷ rest.lines; past = rest.past } → slot_of version line ≡ Ok row → admitted rounds rows row line.number ≡ Ok tt
    → slots_from version rounds rows whole.lines whole.past ≡ total → slots_from version rounds (rows ++ row ∷ []) rest.lines rest.past ≡ total
unfolding slots_from
goes_on version rounds rows whole rest line row total begins cut read admits so_far =
    let here : next_begins (codes "slot") (line ∷ rest.lines) ≡ true = ap (λ (i : Input). next_begins (codes "slot") i.lines) (sym cut) ∙ begins in
    let moved : slots_from version rounds rows (line ∷ rest.lines) rest.past ≡ total = ap (λ (i : Input). slots_from version rounds rows i.lines i.past) (sym cut) ∙ so_far in
    rw (here, read, admits) at moved

pub ends_at_row : (version rounds : ℕ) (rows : List SlotRow) (whole rest : Input) (line : Line) (e : FileFault) (total : Answer)
    → next_begins (codes "slot") whole.lines ≡ true → whole ≡ record { lines = line ∷ rest.lines; past = rest.past } → slot_of version line ≡ Err e
    → slots_from version rounds rows whole.lines whole.past ≡ total → total ≡ Err e
unfolding slots_from
ends_at_row version rounds rows whole rest line e total begins cut read so_far =
    let here : next_begins (codes "slot") (line ∷ rest.lines) ≡ true = ap (λ (i : Input). next_begins (codes "slot") i.lines) (sym cut) ∙ begins in
    let moved : slots_from version rounds rows (line ∷ rest.lines) rest.past ≡ total = ap (λ (i : Input). slots_from version rounds rows i.lines i.past) (sym cut) ∙ so_far in
    sym (rw (here, read) at moved)

pub ends_at_admit : (version rounds : ℕ) (rows : List SlotRow) (whole rest : Input) (line : Line) (row : SlotRow) (e : FileFault) (total : Answer)
    → next_begins (codes "slot") whole.lines ≡ true → whole ≡ record { lines = line ∷ rest.lines; past = rest.past } → slot_of version line ≡ Ok row → admitted rounds rows row line.number ≡ Err e
    → slots_from version rounds rows whole.lines whole.past ≡ total → total ≡ Err e
unfolding slots_from
ends_at_admit version rounds rows whole rest line row e total begins cut read admits so_far =
    let here : next_begins (codes "slot") (line ∷ rest.lines) ≡ true = ap (λ (i : Input). next_begins (codes "slot") i.lines) (sym cut) ∙ begins in
    let moved : slots_from version rounds rows (line ∷ rest.lines) rest.past ≡ total = ap (λ (i : Input). slots_from version rounds rows i.lines i.past) (sym cut) ∙ so_far in
    sym (rw (here, read, admits) at moved)

pub no_more_at : (version rounds : ℕ) (rows : List SlotRow) (lines : List Line) (past : ℕ) → next_begins (codes "slot") lines ≡ false → slots_from version rounds rows lines past ≡ some_slots rows (input lines past)
unfolding slots_from
no_more_at version rounds rows [] past begins = refl
no_more_at version rounds rows (line ∷ lines) past begins = rw begins refl

pub no_more : (version rounds : ℕ) (rows : List SlotRow) (whole : Input) (total : Answer) → next_begins (codes "slot") whole.lines ≡ false
    → slots_from version rounds rows whole.lines whole.past ≡ total → total ≡ some_slots rows whole
no_more version rounds rows whole total begins so_far = sym so_far ∙ no_more_at version rounds rows whole.lines whole.past begins

pub no_slots : (version rounds : ℕ) (rows : List SlotRow) (whole left : Input) (e : FileFault) (total : Answer) → next_begins (codes "slot") whole.lines ≡ false → left ≡ whole → rows ≡ []
    → e ≡ fault.Line (next_number left) → slots_from version rounds rows whole.lines whole.past ≡ total → total ≡ Err e
no_slots version rounds rows whole left e total begins same empty is so_far =
    no_more version rounds rows whole total begins so_far ∙ ap (λ (slots : List SlotRow). some_slots slots whole) empty ∙ ap (λ (i : Input). Err (fault.Line (next_number i))) (sym same) ∙ ap Err (sym is)

pub some_are : (rows : List SlotRow) (left : Input) → (rows ≡ [] → ⊥) → some_slots rows left ≡ Ok (rows, left)
some_are [] left some = absurd (some refl)
some_are (row ∷ rows) left some = refl

pub all_slots : (version rounds : ℕ) (rows : List SlotRow) (whole left : Input) (total : Answer) → next_begins (codes "slot") whole.lines ≡ false → left ≡ whole → (rows ≡ [] → ⊥)
    → slots_from version rounds rows whole.lines whole.past ≡ total → total ≡ Ok (rows, left)
all_slots version rounds rows whole left total begins same some so_far = no_more version rounds rows whole total begins so_far ∙ ap (some_slots rows) (sym same) ∙ some_are rows left some
