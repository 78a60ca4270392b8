-- Puts on one port, one after the other.
use Rattle.std.proofs.Common.{◌≡◌, ℕ, List, [], ◌++◌, Option, Some, None, refl, ap, append_assoc}
use Rattle.std.proofs.lemmas.List.{append-nil}
use Rattle.dr_types.specs.declared.port.Port.{Port}
use Rattle.dr_types.specs.declared.port.Port.TheVariants.{Report, Stream, Image, Journal}
use Rattle.dr_types.specs.Ports.{Ports, grown, put_at}

grown_twice : (bytes : Option (List ℕ)) (a b : List ℕ) → grown (grown bytes a) b ≡ grown bytes (a ++ b)
grown_twice None a b = refl
grown_twice (Some bytes) a b = ap (λ xs. Some xs) (append_assoc bytes a b)

-- two puts are one
pub put_twice : (port : Port) (a b : List ℕ) (ports : Ports) → put_at port b (put_at port a ports) ≡ put_at port (a ++ b) ports
put_twice Report a b ports = ap (λ x. record ports { report = x }) (grown_twice ports.report a b)
put_twice Stream a b ports = ap (λ x. record ports { stream = x }) (grown_twice ports.stream a b)
put_twice Image a b ports = ap (λ x. record ports { image = x }) (grown_twice ports.image a b)
put_twice Journal a b ports = ap (λ x. record ports { journal = x }) (grown_twice ports.journal a b)

grown_none : (bytes : Option (List ℕ)) → grown bytes [] ≡ bytes
grown_none None = refl
grown_none (Some bytes) = ap (λ xs. Some xs) (append-nil bytes)

-- a put of nothing changes nothing
pub put_none : (port : Port) (ports : Ports) → put_at port [] ports ≡ ports
put_none Report ports = ap (λ x. record ports { report = x }) (grown_none ports.report)
put_none Stream ports = ap (λ x. record ports { stream = x }) (grown_none ports.stream)
put_none Image ports = ap (λ x. record ports { image = x }) (grown_none ports.image)
put_none Journal ports = ap (λ x. record ports { journal = x }) (grown_none ports.journal)
