-- Bytes that stay and then grow.
use Rattle.std.proofs.Common.{◌≡◌, ℕ, List, ◌++◌, Bool, true, false, refl, subst}
use Rattle.std.specs.Prelude.{Option, Some, None, Result, Ok, Err, OnOk}
use Rattle.std.specs.Io.KnownBytes.{Keeps}
use Rattle.dr_types.specs.declared.port.Port.{Port}
use Rattle.dr_io_files.specs.Held.{is_same, Grows, Gets}

keeps_grows : (own : Bool) (a b c : Option (List ℕ)) (bytes : List ℕ) → Keeps a b →
    Grows own b c bytes → Grows own a c bytes
keeps_grows true None b c bytes kept grown = tt
keeps_grows true (Some xs) None c bytes kept grown = absurd kept
keeps_grows true (Some xs) (Some ys) None bytes kept grown = grown
keeps_grows true (Some xs) (Some ys) (Some zs) bytes kept grown =
    subst (λ it. zs ≡ it ++ bytes) kept grown
keeps_grows false None b c bytes kept grown = tt
keeps_grows false (Some xs) None c bytes kept grown = absurd kept
keeps_grows false (Some xs) (Some ys) None bytes kept grown = grown
keeps_grows false (Some xs) (Some ys) (Some zs) bytes kept grown = subst (λ it. zs ≡ it) kept grown

keeps_gets : (here port : Port) (a b c : Option (List ℕ)) (bytes : List ℕ) → Keeps a b →
    Gets here port b c bytes → Gets here port a c bytes
keeps_gets here port = keeps_grows (is_same here port)

pub keeps_itself : (a : Option (List ℕ)) → Keeps a a
keeps_itself None = tt
keeps_itself (Some xs) = refl

-- the same for a call that may have failed
pub on_ok_gets : {T E : Type 0} (result : Result T E) (here port : Port) (a b c : Option (List ℕ))
    (bytes : List ℕ) → Keeps a b → OnOk result (Gets here port b c bytes) →
    OnOk result (Gets here port a c bytes)
on_ok_gets (Ok value) here port a b c bytes kept grown = keeps_gets here port a b c bytes kept grown
on_ok_gets (Err why) here port a b c bytes kept grown = tt
