-- What a source told, taken in turns.
use Rattle.std.proofs.Common.{◌≡◌, ℕ, ◌+◌, ◌≤◌, ◌<◌, ◌-◌, List, [], ◌++◌, take, drop, length, Option, Some, Ok, Err, sym, ap, subst, ◌∙◌, arith, length-append}
use Rattle.std.proofs.lemmas.List.{drop-drop, length-take-le, length-drop, append-nil, take-append-drop}
use Rattle.std.proofs.Math.Seq.{take-add}
use Rattle.dr_io.specs.Reading.{Reads, ReadsAll, IsPartTaken}
use Rattle.dr_io.specs.declared.source.ReadTurn.{ReadTurn}
use Rattle.dr_io.specs.declared.source.ReadTurn.TheVariants.{Bytes, End, Failed}
use Rattle.dr_io.specs.declared.reading.ReadFault.TheVariants as fault

-- these bytes are the first of what a source told, and the rest is left
pub record IsTaken (told all : List ℕ) (new : Option (List ℕ)) : Type 0 where
  pub within : length all ≤ length told
  pub same : all ≡ take (length all) told
  pub rest : new ≡ Some (drop (length all) told)

-- so far these bytes were taken from what a source told, and the count of faults has not fallen
pub record Taken (old : Option (List ℕ)) (before : ℕ) (all : List ℕ) (new : Option (List ℕ)) (now : ℕ) : Type 0 where
  pub taken : (told : List ℕ) → old ≡ Some told → IsTaken told all new
  pub later : before ≤ now

take_whole : (xs : List ℕ) (n : ℕ) → drop n xs ≡ [] → take n xs ≡ xs
take_whole xs n none = sym (append-nil (take n xs)) ∙ ap (λ rest. take n xs ++ rest) (sym none) ∙ take-append-drop n xs

taken_more : (told all buf : List ℕ) (n : ℕ) (mid new : Option (List ℕ)) → IsTaken told all mid → n ≤ length buf
    → n ≤ length (drop (length all) told) → take n buf ≡ take n (drop (length all) told) → new ≡ Some (drop n (drop (length all) told))
    → IsTaken told (all ++ take n buf) new
taken_more told all buf n mid new t fits has same rest =
    let long : length (all ++ take n buf) ≡ length all + n = length-append all (take n buf) ∙ ap (λ k. length all + k) (length-take-le n buf fits) in
    let remaining : length (drop (length all) told) ≡ length told - length all = length-drop (length all) told in
    record {
      within = rw long (omega (arith, t.within));
      same = rw long (ap (λ xs. xs ++ take n buf) t.same ∙ ap (λ ys. take (length all) told ++ ys) same ∙ sym (take-add (length all) n told));
      rest = rw long (rest ∙ ap Some (drop-drop n (length all) told));
    }

pub take_more : (old mid new : Option (List ℕ)) (before then now n : ℕ) (all buf : List ℕ) (turn : ReadTurn)
    → Taken old before all mid then → Reads mid then buf turn new now → turn ≡ Bytes n → Taken old before (all ++ take n buf) new now
take_more old mid new before then now n all buf turn t r is = record {
  taken = λ told e.
      let sofar : IsTaken told all mid = t.taken told e in
      let got : (n ≤ length (drop (length all) told)) × (take n buf ≡ take n (drop (length all) told)) × (new ≡ Some (drop n (drop (length all) told))) = r.given n (drop (length all) told) is sofar.rest in
      taken_more told all buf n mid new sofar ((r.some n is).1) got.0 got.1 got.2;
  later = omega (arith, t.later, r.later);
}

whole : (told all : List ℕ) {mid : Option (List ℕ)} → IsTaken told all mid → drop (length all) told ≡ [] → all ≡ told
whole told all t none = t.same ∙ take_whole told (length all) none

part_taken : (told all : List ℕ) (new : Option (List ℕ)) → IsTaken told all new → IsPartTaken told new
part_taken told all new t = (length all, t.within, t.rest)

-- how much is left, where so many bytes were taken
left_over : (told all rest : List ℕ) (new : Option (List ℕ)) → IsTaken told all new → new ≡ Some rest → length rest + length all ≡ length told
left_over told all rest new t is =
    let rested = t.rest in
    let same : rest ≡ drop (length all) told = cc (is, rested) in
    rw same (omega (arith, length-drop (length all) told, t.within))

-- nothing is left
pub all_taken : (limit before then now : ℕ) (old mid new : Option (List ℕ)) (all buf : List ℕ) (turn : ReadTurn)
    → Taken old before all mid then → Reads mid then buf turn new now → turn ≡ End → length all ≤ limit → ReadsAll limit old before (Ok all) new now
all_taken limit before then now old mid new all buf turn t r is fits = record {
  all = λ bytes told ok e.
      let sofar : IsTaken told all mid = t.taken told e in
      let done : (drop (length all) told ≡ []) × (new ≡ Some []) = r.ended (drop (length all) told) is sofar.rest in
      let same : all ≡ told = whole told all sofar done.0 in
      (cc (ok, same), done.1);
  fits = λ bytes ok. let same : all ≡ bytes = cc (ok) in subst (λ xs. length xs ≤ limit) same fits;
  part = λ why told no. absurd (cc (no));
  most = λ told rest e remaining.
      let sofar : IsTaken told all mid = t.taken told e in
      let done : (drop (length all) told ≡ []) × (new ≡ Some []) = r.ended (drop (length all) told) is sofar.rest in
      let same : all ≡ told = whole told all sofar done.0 in
      let few : length told ≤ limit = subst (λ xs. length xs ≤ limit) same fits in
      omega (arith, few);
  long = λ told rest no. absurd (cc (no));
  short = λ told rest no. absurd (cc (no));
  later = omega (arith, t.later, r.later);
  risen = λ no. absurd (cc (no));
}

-- one piece more
pub piece_more : (limit n : ℕ) (all buf : List ℕ) → length all ≤ limit → n ≤ length buf → length buf ≡ 4096
    → length (all ++ take n buf) ≤ limit + 4096
piece_more limit n all buf few fits size =
    rw (length-append all (take n buf) ∙ ap (λ k. length all + k) (length-take-le n buf fits)) (omega (arith, few, fits, size))

-- more than the limit came
pub too_many : (limit before now : ℕ) (old new : Option (List ℕ)) (all : List ℕ)
    → Taken old before all new now → limit < length all → length all ≤ limit + 4096
    → ReadsAll limit old before (Err fault.TooLong) new now
too_many limit before now old new all t more few = record {
  all = λ bytes told no. absurd (cc (no));
  fits = λ bytes no. absurd (cc (no));
  part = λ why told no e. part_taken told all new (t.taken told e);
  most = λ told rest e is. omega (arith, left_over told all rest new (t.taken told e) is, few);
  long = λ told rest no e is. omega (arith, left_over told all rest new (t.taken told e) is);
  short = λ told rest no. absurd (cc (no));
  later = t.later;
  risen = λ no. absurd (cc (no));
}

-- a read failed
pub cut_short : (limit before then now : ℕ) (old mid new : Option (List ℕ)) (all buf : List ℕ) (turn : ReadTurn)
    → Taken old before all mid then → Reads mid then buf turn new now → turn ≡ Failed → length all ≤ limit
    → ReadsAll limit old before (Err fault.Failed) new now
cut_short limit before then now old mid new all buf turn t r is fits =
    let kept : new ≡ mid = r.kept is in
    record {
      all = λ bytes told no. absurd (cc (no));
      fits = λ bytes no. absurd (cc (no));
      part = λ why told no e. part_taken told all new (rw kept (t.taken told e));
      most = λ told rest e remaining. omega (arith, left_over told all rest new (rw kept (t.taken told e)) remaining, fits);
      long = λ told rest no. absurd (cc (no));
      short = λ told rest no e remaining. omega (arith, left_over told all rest new (rw kept (t.taken told e)) remaining);
      later = omega (arith, t.later, r.later);
      risen = λ no. omega (arith, t.later, r.risen is);
    }

-- there was no room for what came last
pub no_room : (limit before now : ℕ) (old new : Option (List ℕ)) (all : List ℕ) → Taken old before all new now
    → length all ≤ limit + 4096 → ReadsAll limit old before (Err fault.Memory) new now
no_room limit before now old new all t few = record {
  all = λ bytes told no. absurd (cc (no));
  fits = λ bytes no. absurd (cc (no));
  part = λ why told no e. part_taken told all new (t.taken told e);
  most = λ told rest e is. omega (arith, left_over told all rest new (t.taken told e) is, few);
  long = λ told rest no. absurd (cc (no));
  short = λ told rest no. absurd (cc (no));
  later = t.later;
  risen = λ no. absurd (cc (no));
}
