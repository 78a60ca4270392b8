-- Puts that end with a first part of one.
use Rattle.std.proofs.Common.{◌≡◌, ℕ, ◌+◌, ◌≤◌, List, [], ◌∷◌, ◌++◌, refl, length, take, drop, min, ap, sym, subst, ◌∙◌, inl, inr, arith, length-append}
use Rattle.std.specs.Prelude.{Result, Ok, Err, OnErr}
use Rattle.std.proofs.Math.Seq.{take-append-add, take-append_seam}
use Rattle.std.proofs.lemmas.List.{take-append-le, take-append-drop, length-take}
use Rattle.dr_types.specs.declared.port.Port.{Port}
use Rattle.dr_types.specs.Ports.{Ports, put_at, PutsCut}
use Rattle.dr_types.proofs.Ports.{put_twice, put_none}
use Rattle.dr_command_io.specs.Puts.{PutsPart}

-- the first put was made, and of those after it the next was cut
pub cut_after : (port : Port) (bytes : List ℕ) (puts : List (Port × List ℕ)) (old mid new : Ports) → mid ≡ put_at port bytes old
    → PutsCut puts mid new → PutsCut ((port, bytes) ∷ puts) old new
cut_after port bytes puts old mid new put cut = inr (subst (λ (ports : Ports). PutsCut puts ports new) put cut)

-- nothing more was put
pub cut_here : (puts : List (Port × List ℕ)) (ports : Ports) → PutsCut puts ports ports
cut_here [] ports = refl
cut_here (p ∷ ps) ports = inl (0, sym (put_none p.0 ports))

-- the last put was cut
pub last_cut : (port : Port) (bytes : List ℕ) (old new : Ports) → PutsPart port bytes old new → PutsCut ((port, bytes) ∷ []) old new
last_cut port bytes old new part = inl part

same_part : (n : ℕ) (xs : List ℕ) → take (length (take n xs)) xs ≡ take n xs
same_part n xs = ap (take (length (take n xs))) (sym (take-append-drop n xs)) ∙ take-append_seam (take n xs) (drop n xs)

part_within : (n : ℕ) (xs : List ℕ) → length (take n xs) ≤ length xs
part_within n xs = let is : length (take n xs) ≡ min n (length xs) = length-take n xs in omega (arith, is)

-- a first part of what comes next, after what came before, is a first part of the whole
cut_within : (n : ℕ) (front next rest : List ℕ) → take (length front + length (take n next)) ((front ++ next) ++ rest) ≡ front ++ take n next
cut_within n front next rest =
    let few : length front + length (take n next) ≤ length (front ++ next) = let is = length-append front next in omega (arith, is, part_within n next) in
    take-append-le (length front + length (take n next)) (front ++ next) rest few ∙ take-append-add front next (length (take n next)) ∙ ap (λ xs. front ++ xs) (same_part n next)

-- after a front the put of what comes next ended with a first part of it, so the whole did
pub part_after : (port : Port) (front next rest whole : List ℕ) (start old new : Ports) → whole ≡ (front ++ next) ++ rest
    → old ≡ put_at port front start → PutsPart port next old new → PutsPart port whole start new
part_after port front next rest whole start old new are is part = (
  length front + length (take part.0 next),
  part.1 ∙ ap (put_at port (take part.0 next)) is ∙ put_twice port front (take part.0 next) start
      ∙ ap (λ xs. put_at port xs start) (sym (ap (take (length front + length (take part.0 next))) are ∙ cut_within part.0 front next rest)),
)

-- what holds anyhow holds at an error
pub on_err : {T E P : Type 0} (r : Result T E) → P → OnErr r P
on_err (Ok x) p = tt
on_err (Err e) p = p
