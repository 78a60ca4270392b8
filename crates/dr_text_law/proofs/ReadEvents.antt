-- Words that say an event are that event's.
use Rattle.std.proofs.Common.{◌≡◌, ℕ, ◌^◌, ◌<◌, ◌≤◌, Bool, true, false, ◌&&◌, cond, List, [], ◌∷◌, length, Option, Some, refl, ap, subst, sym, ◌∙◌}
use Rattle.std.specs.Prelude.{nat_le, ◌==◌, codes, decimal}
use Rattle.std.specs.Str.{bytes_eq}
use Rattle.std.proofs.lemmas.Bool.{leb-true, eqb-true}
use Rattle.dr_types.specs.declared.guest.Why.{Why}
use Rattle.dr_types.specs.declared.guest.Why.TheVariants as reason
use Rattle.dr_history.specs.declared.event.Event.{Event}
use Rattle.dr_history.specs.declared.event.Event.TheVariants.{Flushed, Stopped, Switched}
use Rattle.dr_history.specs.Lines.{FitsLine, why_word, event_words}
use Rattle.dr_text_law.specs.Words.{all_numbers, one_byte, bytes_of}
use Rattle.dr_text_law.specs.Events.{why_of, start_of, read_of, write_of, paint_of, local_of, halted_of, opened_of, filled_of, pushed_of, exited_of, deposited_of, reset_of, alone, asked_of, synced_of, copied_of, throttled_of, event_named, event_of}
use Rattle.dr_text_law.proofs.Lexing.{both}
use Rattle.dr_text_law.proofs.ReadWords.{takes_spaced, when, steps, takes, numbers_say, one_byte_says, bytes_say, low_says, equal}

-- these words are the event's, which fits
pub record Says (words : List (List ℕ)) (e : Event) : Type 0 where
  pub words_are : event_words e ≡ words
  pub fits : FitsLine e

-- an event that was given is the one that was read
some_is : {e f : Event} → Some e ≡ Some f → e ≡ f
some_is e = cc

-- and so is a reason
why_is : {why other : Why} → Some why ≡ Some other → why ≡ other
why_is e = cc

-- the words after `start` that say an event
start_says : (words : List (List ℕ)) (e : Event) → start_of words ≡ Some e → Says (codes "start" ∷ words) e
start_says [] e is = absurd cc
start_says (at ∷ []) e is =
    let a = takes 64 at _ _ is in
    subst (Says (codes "start" ∷ at ∷ [])) (some_is a.next) (record { words_are = rw a.word_is refl; fits = a.fits })
start_says (a ∷ b ∷ words) e is = absurd cc

-- the words after `r` that say an event
read_says : (words : List (List ℕ)) (e : Event) → read_of words ≡ Some e → Says (codes "r" ∷ words) e
read_says [] e is = absurd cc
read_says (a ∷ []) e is = absurd cc
read_says (a ∷ b ∷ []) e is = absurd cc
read_says (a ∷ b ∷ c ∷ []) e is = absurd cc
read_says (v ∷ i ∷ address ∷ value ∷ []) e is =
    let a = takes 32 v _ _ is in
    let b = takes 32 i _ _ a.next in
    let c = takes_spaced address _ _ b.next in
    let d = takes 64 value _ _ c.next in
    subst (Says (codes "r" ∷ v ∷ i ∷ address ∷ value ∷ [])) (some_is d.next) (record { words_are = rw (a.word_is, b.word_is, c.word_is, d.word_is) refl; fits = (a.fits, b.fits, c.space, c.fits, d.fits) })
read_says (a ∷ b ∷ c ∷ d ∷ g ∷ words) e is = absurd cc

-- the words after `l` that say an event
local_says : (words : List (List ℕ)) (e : Event) → local_of words ≡ Some e → Says (codes "l" ∷ words) e
local_says [] e is = absurd cc
local_says (a ∷ []) e is = absurd cc
local_says (v ∷ i ∷ []) e is =
    let a = takes 32 v _ _ is in
    let b = takes 32 i _ _ a.next in
    subst (Says (codes "l" ∷ v ∷ i ∷ [])) (some_is b.next) (record { words_are = rw (a.word_is, b.word_is) refl; fits = (a.fits, b.fits) })
local_says (a ∷ b ∷ c ∷ words) e is = absurd cc

-- the words after `h` that say an event
halted_says : (words : List (List ℕ)) (e : Event) → halted_of words ≡ Some e → Says (codes "h" ∷ words) e
halted_says [] e is = absurd cc
halted_says (a ∷ []) e is = absurd cc
halted_says (v ∷ i ∷ []) e is =
    let a = takes 32 v _ _ is in
    let b = takes 32 i _ _ a.next in
    subst (Says (codes "h" ∷ v ∷ i ∷ [])) (some_is b.next) (record { words_are = rw (a.word_is, b.word_is) refl; fits = (a.fits, b.fits) })
halted_says (a ∷ b ∷ c ∷ words) e is = absurd cc

-- the words after `o` that say an event
opened_says : (words : List (List ℕ)) (e : Event) → opened_of words ≡ Some e → Says (codes "o" ∷ words) e
opened_says [] e is = absurd cc
opened_says (a ∷ []) e is = absurd cc
opened_says (a ∷ b ∷ []) e is = absurd cc
opened_says (v ∷ k ∷ page ∷ []) e is =
    let a = takes 32 v _ _ is in
    let b = takes 64 k _ _ a.next in
    let c = takes 32 page _ _ b.next in
    subst (Says (codes "o" ∷ v ∷ k ∷ page ∷ [])) (some_is c.next) (record { words_are = rw (a.word_is, b.word_is, c.word_is) refl; fits = (a.fits, b.fits, c.fits) })
opened_says (a ∷ b ∷ c ∷ d ∷ words) e is = absurd cc

-- the words after `c` that say an event
filled_says : (words : List (List ℕ)) (e : Event) → filled_of words ≡ Some e → Says (codes "c" ∷ words) e
filled_says [] e is = absurd cc
filled_says (a ∷ []) e is = absurd cc
filled_says (v ∷ page ∷ []) e is =
    let a = takes 32 v _ _ is in
    let b = takes 32 page _ _ a.next in
    subst (Says (codes "c" ∷ v ∷ page ∷ [])) (some_is b.next) (record { words_are = rw (a.word_is, b.word_is) refl; fits = (a.fits, b.fits) })
filled_says (a ∷ b ∷ c ∷ words) e is = absurd cc

-- the words after `p` that say an event
pushed_says : (words : List (List ℕ)) (e : Event) → pushed_of words ≡ Some e → Says (codes "p" ∷ words) e
pushed_says [] e is = absurd cc
pushed_says (a ∷ []) e is = absurd cc
pushed_says (v ∷ k ∷ []) e is =
    let a = takes 32 v _ _ is in
    let b = takes 64 k _ _ a.next in
    subst (Says (codes "p" ∷ v ∷ k ∷ [])) (some_is b.next) (record { words_are = rw (a.word_is, b.word_is) refl; fits = (a.fits, b.fits) })
pushed_says (a ∷ b ∷ c ∷ words) e is = absurd cc

-- the words after `d` that say an event
deposited_says : (words : List (List ℕ)) (e : Event) → deposited_of words ≡ Some e → Says (codes "d" ∷ words) e
deposited_says [] e is = absurd cc
deposited_says (a ∷ []) e is = absurd cc
deposited_says (a ∷ b ∷ []) e is = absurd cc
deposited_says (v ∷ from ∷ to ∷ []) e is =
    let a = takes 32 v _ _ is in
    let b = takes 64 from _ _ a.next in
    let c = takes 64 to _ _ b.next in
    subst (Says (codes "d" ∷ v ∷ from ∷ to ∷ [])) (some_is c.next) (record { words_are = rw (a.word_is, b.word_is, c.word_is) refl; fits = (a.fits, b.fits, c.fits) })
deposited_says (a ∷ b ∷ c ∷ d ∷ words) e is = absurd cc

-- the words after `z` that say an event
reset_says : (words : List (List ℕ)) (e : Event) → reset_of words ≡ Some e → Says (codes "z" ∷ words) e
reset_says [] e is = absurd cc
reset_says (a ∷ []) e is = absurd cc
reset_says (v ∷ k ∷ []) e is =
    let a = takes 32 v _ _ is in
    let b = takes 64 k _ _ a.next in
    subst (Says (codes "z" ∷ v ∷ k ∷ [])) (some_is b.next) (record { words_are = rw (a.word_is, b.word_is) refl; fits = (a.fits, b.fits) })
reset_says (a ∷ b ∷ c ∷ words) e is = absurd cc

-- the words after `ask` that say an event
asked_says : (words : List (List ℕ)) (e : Event) → asked_of words ≡ Some e → Says (codes "ask" ∷ words) e
asked_says [] e is = absurd cc
asked_says (r ∷ []) e is =
    let a = takes 32 r _ _ is in
    subst (Says (codes "ask" ∷ r ∷ [])) (some_is a.next) (record { words_are = rw a.word_is refl; fits = a.fits })
asked_says (a ∷ b ∷ words) e is = absurd cc

-- the words after `copy` that say an event
copied_says : (words : List (List ℕ)) (e : Event) → copied_of words ≡ Some e → Says (codes "copy" ∷ words) e
copied_says [] e is = absurd cc
copied_says (a ∷ []) e is = absurd cc
copied_says (r ∷ page ∷ []) e is =
    let a = takes 32 r _ _ is in
    let b = takes 32 page _ _ a.next in
    subst (Says (codes "copy" ∷ r ∷ page ∷ [])) (some_is b.next) (record { words_are = rw (a.word_is, b.word_is) refl; fits = (a.fits, b.fits) })
copied_says (a ∷ b ∷ c ∷ words) e is = absurd cc

-- the words after `t` that say an event
throttled_says : (words : List (List ℕ)) (e : Event) → throttled_of words ≡ Some e → Says (codes "t" ∷ words) e
throttled_says [] e is = absurd cc
throttled_says (a ∷ []) e is = absurd cc
throttled_says (v ∷ us ∷ []) e is =
    let a = takes 32 v _ _ is in
    let b = takes 64 us _ _ a.next in
    subst (Says (codes "t" ∷ v ∷ us ∷ [])) (some_is b.next) (record { words_are = rw (a.word_is, b.word_is) refl; fits = (a.fits, b.fits) })
throttled_says (a ∷ b ∷ c ∷ words) e is = absurd cc

-- the words after `f` that say an event
paint_says : (words : List (List ℕ)) (e : Event) → paint_of words ≡ Some e → Says (codes "f" ∷ words) e
paint_says [] e is = absurd cc
paint_says (a ∷ []) e is = absurd cc
paint_says (a ∷ b ∷ []) e is = absurd cc
paint_says (a ∷ b ∷ c ∷ []) e is = absurd cc
paint_says (v ∷ i ∷ page ∷ hex ∷ []) e is =
    let a = takes 32 v _ _ is in
    let b = takes 32 i _ _ a.next in
    let c = takes 32 page _ _ b.next in
    let d = steps (one_byte hex) _ _ c.next in
    let byte = one_byte_says hex d.value d.is in
    subst (Says (codes "f" ∷ v ∷ i ∷ page ∷ hex ∷ [])) (some_is d.next) (record { words_are = rw (a.word_is, b.word_is, c.word_is, byte.0) refl; fits = (a.fits, b.fits, c.fits, byte.1) })
paint_says (a ∷ b ∷ c ∷ d ∷ g ∷ words) e is = absurd cc

-- a word that says why a vCPU left the guest is the word for that
why_says : (word : List ℕ) (why : Why) → why_of word ≡ Some why → why_word why ≡ word
why_says word why is =
    either (bytes_eq word (codes "halted")) _ _ why is (λ t h. named reason.Halted why word t h)
    (λ is. either (bytes_eq word (codes "stopped")) _ _ why is (λ t h. named reason.Stopped why word t h)
    (λ is. either (bytes_eq word (codes "kicked")) _ _ why is (λ t h. named reason.Kicked why word t h)
    (λ is. either (bytes_eq word (codes "full")) _ _ why is (λ t h. named reason.Full why word t h)
    (λ is. either (bytes_eq word (codes "yield")) _ _ why is (λ t h. named reason.Yield why word t h)
    (λ is. absurd cc)))))
  where
    either : {P : Type 0} (test : Bool) (x y : Option Why) (why : Why) → cond test x y ≡ Some why → (test ≡ true → x ≡ Some why → P) → (y ≡ Some why → P) → P
    either true x y why is here later = here refl is
    either false x y why is here later = later is

    named : (said why : Why) (word : List ℕ) → bytes_eq word (why_word said) ≡ true → Some said ≡ Some why → why_word why ≡ word
    named said why word t h = ap why_word (sym (why_is h)) ∙ sym (equal word (why_word said) t)

-- the words after `x` that say an event
exited_says : (words : List (List ℕ)) (e : Event) → exited_of words ≡ Some e → Says (codes "x" ∷ words) e
exited_says [] e is = absurd cc
exited_says (a ∷ []) e is = absurd cc
exited_says (v ∷ why ∷ []) e is =
    let a = takes 32 v _ _ is in
    let b = steps (why_of why) _ _ a.next in
    subst (Says (codes "x" ∷ v ∷ why ∷ [])) (some_is b.next) (record { words_are = rw (a.word_is, why_says why b.value b.is) refl; fits = a.fits })
exited_says (a ∷ b ∷ c ∷ words) e is = absurd cc

-- a name that stands alone
alone_says : (name : List ℕ) (said : Event) (words : List (List ℕ)) (e : Event) → Says (name ∷ []) said → alone said words ≡ Some e → Says (name ∷ words) e
alone_says name said [] e says is = subst (Says (name ∷ [])) (some_is is) says
alone_says name said (word ∷ words) e says is = absurd cc

-- the words after `w` that say an event
write_says : (words : List (List ℕ)) (e : Event) → write_of words ≡ Some e → Says (codes "w" ∷ words) e
write_says [] e is = absurd cc
write_says (a ∷ []) e is = absurd cc
write_says (a ∷ b ∷ []) e is = absurd cc
write_says (a ∷ b ∷ c ∷ []) e is = absurd cc
write_says (v ∷ i ∷ address ∷ hex ∷ []) e is =
    let a = takes 32 v _ _ is in
    let b = takes 32 i _ _ a.next in
    let c = takes_spaced address _ _ b.next in
    let d = steps (bytes_of hex) _ _ c.next in
    let tested = when (nat_le 1 (length d.value) && nat_le (length d.value) 8) _ e d.next in
    let range = both (nat_le 1 (length d.value)) (nat_le (length d.value) 8) tested.0 in
    let low : 1 ≤ length d.value = leb-true _ _ range.0 in
    let high : length d.value ≤ 8 = leb-true _ _ range.1 in
    let bytes = bytes_say hex d.value d.is in
    let value = low_says d.value high bytes.1 in
    subst (Says (codes "w" ∷ v ∷ i ∷ address ∷ hex ∷ [])) tested.1
    (record { words_are = rw (a.word_is, b.word_is, c.word_is, value.0, bytes.0) refl; fits = (a.fits, b.fits, c.space, c.fits, low, high, value.1) })
write_says (a ∷ b ∷ c ∷ d ∷ g ∷ words) e is = absurd cc

-- the words after `sync` that say an event
synced_says : (words : List (List ℕ)) (e : Event) → synced_of words ≡ Some e → Says (codes "sync" ∷ words) e
synced_says [] e is = absurd cc
synced_says (a ∷ []) e is = absurd cc
synced_says (a ∷ b ∷ []) e is = absurd cc
synced_says (r ∷ at ∷ count ∷ pages) e is =
    let a = takes 32 r _ _ is in
    let b = takes 64 at _ _ a.next in
    let c = takes 64 count _ _ b.next in
    let d = steps (all_numbers 32 pages) _ _ c.next in
    let tested = when (c.value == length d.value) _ e d.next in
    let counted : c.value ≡ length d.value = eqb-true _ _ tested.0 in
    let all = numbers_say pages d.value d.is in
    let count_is : decimal (length d.value) ≡ count = ap decimal (sym counted) ∙ c.word_is in
    subst (Says (codes "sync" ∷ r ∷ at ∷ count ∷ pages)) tested.1
    (record { words_are = rw (a.word_is, b.word_is, count_is, all.0) refl; fits = (a.fits, b.fits, subst (λ (n : ℕ). n < 2 ^ 64) counted c.fits, all.1) })

-- a test of the name that holds, or the tests after it
either : (e : Event) (name other : List ℕ) (words : List (List ℕ)) (x y : Option Event) → cond (bytes_eq name other) x y ≡ Some e
    → (x ≡ Some e → Says (other ∷ words) e) → (y ≡ Some e → Says (name ∷ words) e) → Says (name ∷ words) e
either e name other words x y is here later = pick (bytes_eq name other) refl is where
  pick : (test : Bool) → bytes_eq name other ≡ test → cond test x y ≡ Some e → Says (name ∷ words) e
  pick true t h = subst (λ (n : List ℕ). Says (n ∷ words) e) (sym (equal name other t)) (here h)
  pick false t h = later h

-- a name and the words after it
named_says : (name : List ℕ) (words : List (List ℕ)) (e : Event) → event_named name words ≡ Some e → Says (name ∷ words) e
named_says name words e is =
    either e name (codes "start") words _ _ is (start_says words e)
    (λ is. either e name (codes "r") words _ _ is (read_says words e)
    (λ is. either e name (codes "w") words _ _ is (write_says words e)
    (λ is. either e name (codes "f") words _ _ is (paint_says words e)
    (λ is. either e name (codes "l") words _ _ is (local_says words e)
    (λ is. either e name (codes "h") words _ _ is (halted_says words e)
    (λ is. either e name (codes "o") words _ _ is (opened_says words e)
    (λ is. either e name (codes "c") words _ _ is (filled_says words e)
    (λ is. either e name (codes "p") words _ _ is (pushed_says words e)
    (λ is. either e name (codes "x") words _ _ is (exited_says words e)
    (λ is. either e name (codes "d") words _ _ is (deposited_says words e)
    (λ is. either e name (codes "z") words _ _ is (reset_says words e)
    (λ is. either e name (codes "flush") words _ _ is (alone_says (codes "flush") Flushed words e (record { words_are = refl; fits = tt }))
    (λ is. either e name (codes "ask") words _ _ is (asked_says words e)
    (λ is. either e name (codes "sync") words _ _ is (synced_says words e)
    (λ is. either e name (codes "copy") words _ _ is (copied_says words e)
    (λ is. either e name (codes "t") words _ _ is (throttled_says words e)
    (λ is. either e name (codes "stop") words _ _ is (alone_says (codes "stop") Stopped words e (record { words_are = refl; fits = tt }))
    (λ is. either e name (codes "switched") words _ _ is (alone_says (codes "switched") Switched words e (record { words_are = refl; fits = tt }))
    (λ is. absurd cc)))))))))))))))))))

-- words that say an event are that event's
pub event_says : (words : List (List ℕ)) (e : Event) → event_of words ≡ Some e → Says words e
event_says [] e is = absurd cc
event_says (name ∷ words) e is = named_says name words e is
