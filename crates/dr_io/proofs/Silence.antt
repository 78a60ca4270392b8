-- An outlet that tells of no port, or not of one.
use Rattle.std.proofs.Common.{◌≡◌, ℕ, List, refl, ap, sym, ◌∙◌}
use Rattle.std.specs.Prelude.{Option, None}
use Rattle.dr_types.specs.Ports.{Ports, silent, grown, told_at, put_at}
use Rattle.dr_types.specs.declared.port.Port.{Port}
use Rattle.dr_types.specs.declared.port.Port.TheVariants.{Report, Stream, Image, Journal}

pub silent_put : (port : Port) (more : List ℕ) → put_at port more silent ≡ silent
silent_put Report more = refl
silent_put Stream more = refl
silent_put Image more = refl
silent_put Journal more = refl

untold : (told : Option (List ℕ)) (more : List ℕ) → told ≡ None → grown told more ≡ told
untold told more is = ap (λ (t : Option (List ℕ)). grown t more) is ∙ sym is

-- what is put on a port of which nothing is told changes nothing that is told
pub untold_put : (port : Port) (more : List ℕ) (p : Ports) → told_at port p ≡ None → put_at port more p ≡ p
untold_put Report more p is = ap (λ (t : Option (List ℕ)). record p { report = t }) (untold p.report more is)
untold_put Stream more p is = ap (λ (t : Option (List ℕ)). record p { stream = t }) (untold p.stream more is)
untold_put Image more p is = ap (λ (t : Option (List ℕ)). record p { image = t }) (untold p.image more is)
untold_put Journal more p is = ap (λ (t : Option (List ℕ)). record p { journal = t }) (untold p.journal more is)

pub silent_at : (port : Port) → told_at port silent ≡ None
silent_at Report = refl
silent_at Stream = refl
silent_at Image = refl
silent_at Journal = refl
