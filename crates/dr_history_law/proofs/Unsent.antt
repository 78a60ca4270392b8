-- What it means that a page is unsent.
use Rattle.std.proofs.Common.{◌≡◌, ℕ, Bool, true, false, cond, List, [], ◌∷◌, ◌++◌, inl, inr, refl, ap, sym, ◌∙◌, subst}
use Rattle.std.specs.Prelude.{◌||◌, not}
use Rattle.std.specs.List.{list_any}
use Rattle.std.proofs.lemmas.Bool.{and_parts, and_from, or_parts, or_from, or_left, or_right, cases_Bool, not_from_false, not-true, true≢false, false≢true}
use Rattle.dr_types.specs.declared.guest.Guest.{Guest}
use Rattle.dr_history.specs.declared.event.Event.{Event}
use Rattle.dr_history.specs.declared.event.Event.TheVariants.{Asked, Copied}
use Rattle.dr_history.specs.Lookback.{since, before}
use Rattle.dr_history.specs.Kinds.{is_asked, copies_page}
use Rattle.dr_history.specs.Unsent.{writes_to, has_uncopied_write, is_unsent}
use Rattle.dr_history_law.specs.Unsent.{UnsentIsWritten}

before_last : (r : ℕ) (later rest : List Event) → list_any is_asked later ≡ false → before is_asked (later ++ Asked r ∷ rest) ≡ rest
before_last r [] rest h = refl
before_last r (Asked n ∷ later) rest h = absurd (true≢false h)
before_last r (e ∷ later) rest h = before_last r later rest h

since_last : (r : ℕ) (later rest : List Event) → list_any is_asked later ≡ false → since is_asked (later ++ Asked r ∷ rest) ≡ later
since_last r [] rest h = refl
since_last r (Asked n ∷ later) rest h = absurd (true≢false h)
since_last r (e ∷ later) rest h = ap (λ (es : List Event). e ∷ es) (since_last r later rest h)

-- a write is no copy
write_no_copy : (guest : Guest) (page : ℕ) (e : Event) → writes_to guest page e ≡ true → copies_page page e ≡ false
write_no_copy guest page (Copied r q) h = absurd (false≢true h)
write_no_copy guest page e h = refl

uncopied_cons : (copied written rest : Bool) → copied ≡ false → (written || rest) ≡ true → cond copied false (written || rest) ≡ true
uncopied_cons true written rest c h = absurd (true≢false c)
uncopied_cons false written rest c h = h

uncopied_between : (guest : Guest) (page : ℕ) (between earlier : List Event) (write : Event) → writes_to guest page write ≡ true → list_any (copies_page page) between ≡ false → has_uncopied_write guest page (between ++ write ∷ earlier) ≡ true
uncopied_between guest page [] earlier write w c =
    uncopied_cons (copies_page page write) (writes_to guest page write) (has_uncopied_write guest page earlier) (write_no_copy guest page write w) (or_left (writes_to guest page write) (has_uncopied_write guest page earlier) w)
uncopied_between guest page (e ∷ between) earlier write w c =
    let parts = or_parts (copies_page page e) (list_any (copies_page page) between) c in
    uncopied_cons (copies_page page e) (writes_to guest page e) (has_uncopied_write guest page (between ++ write ∷ earlier)) parts.0
    (or_right (writes_to guest page e) (has_uncopied_write guest page (between ++ write ∷ earlier)) (uncopied_between guest page between earlier write w parts.1))

-- a page with such a write is unsent
pub unsent_from : (guest : Guest) (r : ℕ) (later between : List Event) (write : Event) (earlier : List Event) (page : ℕ) → list_any is_asked later ≡ false → writes_to guest page write ≡ true → list_any (copies_page page) between ≡ false → list_any (copies_page page) later ≡ false → is_unsent guest page (later ++ Asked r ∷ (between ++ write ∷ earlier)) ≡ true
unsent_from guest r later between write earlier page none w c d =
    let rest : List Event = between ++ write ∷ earlier in
    let past : List Event = later ++ Asked r ∷ rest in
    let written : has_uncopied_write guest page (before is_asked past) ≡ true = ap (λ (es : List Event). has_uncopied_write guest page es) (before_last r later rest none) ∙ uncopied_between guest page between earlier write w c in
    let uncopied : list_any (copies_page page) (since is_asked past) ≡ false = ap (λ (es : List Event). list_any (copies_page page) es) (since_last r later rest none) ∙ d in
    and_from (has_uncopied_write guest page (before is_asked past)) (not (list_any (copies_page page) (since is_asked past))) written (not_from_false (list_any (copies_page page) (since is_asked past)) uncopied)

-- the last write, with no Copied after it
abbrev LastWrite : Guest → ℕ → List Event → Type 0
LastWrite guest page xs =
    (between : List Event) × (write : Event) × (earlier : List Event)
    × (xs ≡ between ++ write ∷ earlier) × (writes_to guest page write ≡ true) × (list_any (copies_page page) between ≡ false)

uncopied_parts : (copied written rest : Bool) → cond copied false (written || rest) ≡ true → (copied ≡ false) × ((written || rest) ≡ true)
uncopied_parts true written rest h = absurd (false≢true h)
uncopied_parts false written rest h = (refl, h)

or_other : (a b : Bool) → a ≡ false → (a || b) ≡ true → b ≡ true
or_other true b f h = absurd (true≢false f)
or_other false b f h = h

last_write : (guest : Guest) (page : ℕ) (xs : List Event) → has_uncopied_write guest page xs ≡ true → LastWrite guest page xs
last_write guest page [] h = absurd (false≢true h)
last_write guest page (e ∷ xs) h =
    let parts = uncopied_parts (copies_page page e) (writes_to guest page e) (has_uncopied_write guest page xs) h in
    elim (cases_Bool (writes_to guest page e)) [
      | inl w ↦ ([], e, xs, refl, w, refl)
      | inr n ↦
          let found : LastWrite guest page xs = last_write guest page xs (or_other (writes_to guest page e) (has_uncopied_write guest page xs) n parts.1) in
          (e ∷ found.0, found.1, found.2, ap (λ (es : List Event). e ∷ es) found.3, found.4, or_from (copies_page page e) (list_any (copies_page page) found.0) parts.0 found.5)
    ]

-- the last Asked, where anything came before one
abbrev LastAsked : List Event → Type 0
LastAsked past = (round : ℕ) × (past ≡ since is_asked past ++ Asked round ∷ before is_asked past) × (list_any is_asked (since is_asked past) ≡ false)

last_asked : (guest : Guest) (page : ℕ) (past : List Event) → has_uncopied_write guest page (before is_asked past) ≡ true → LastAsked past
last_asked guest page [] h = absurd (false≢true h)
last_asked guest page (Asked r ∷ past) h = (r, refl, refl)
last_asked guest page (e ∷ past) h =
    let found : LastAsked past = last_asked guest page past h in
    (found.0, ap (λ (es : List Event). e ∷ es) found.1, found.2)

joined : (later rest other : List Event) (r : ℕ) (past : List Event) → past ≡ later ++ Asked r ∷ rest → rest ≡ other → past ≡ later ++ Asked r ∷ other
joined later rest other r past h k = h ∙ ap (λ (es : List Event). later ++ Asked r ∷ es) k

pub unsent_is_written : (guest : Guest) (page : ℕ) (past : List Event) → UnsentIsWritten guest page past
unsent_is_written guest page past = (
  (λ h.
      let parts = and_parts (has_uncopied_write guest page (before is_asked past)) (not (list_any (copies_page page) (since is_asked past))) h in
      let asked : LastAsked past = last_asked guest page past parts.0 in
      let found : LastWrite guest page (before is_asked past) = last_write guest page (before is_asked past) parts.0 in
      record {
        later = since is_asked past;
        round = asked.0;
        between = found.0;
        write = found.1;
        earlier = found.2;
        parts = joined (since is_asked past) (before is_asked past) (found.0 ++ found.1 ∷ found.2) asked.0 past asked.1 found.3;
        last = asked.2;
        writes = found.4;
        uncopied_between = found.5;
        uncopied_later = not-true (list_any (copies_page page) (since is_asked past)) parts.1;
      }),
  (λ w. subst (λ (es : List Event). is_unsent guest page es ≡ true) (sym w.parts)
      (unsent_from guest w.round w.later w.between w.write w.earlier page w.last w.writes w.uncopied_between w.uncopied_later)),
)
