-- What comes after the guest is stopped.
use Rattle.std.proofs.Common.{◌≡◌, ℕ, true, false, List, [], ◌∷◌, ◌++◌, refl}
use Rattle.dr_types.specs.declared.guest.Guest.{Guest}
use Rattle.dr_types.specs.Pages.{page_count}
use Rattle.dr_history.specs.declared.event.Event.{Event}
use Rattle.dr_history.specs.declared.event.Event.TheVariants.{Write, Paint, Stopped}
use Rattle.dr_history.specs.Memory.{page_bytes}
use Rattle.dr_history.specs.Vcpus.{stopped}
use Rattle.dr_history.specs.Legality.{IsLegalSoFar}
use Rattle.dr_history_law.specs.Stop.{NoWriteFollows, MemoryStays, OpensLast}
use Rattle.dr_history_law.proofs.Kept.{opened_ends, op_facts}
use Rattle.dr_history_law.proofs.Listing.{map_below}

-- no write comes after the stop
pub no_write_follows : (guest : Guest) (past : List Event) → IsLegalSoFar guest past → NoWriteFollows past
no_write_follows guest [] legal s = refl
no_write_follows guest (Write v i space address len value ∷ past) legal s = let f = (op_facts guest past (Write v i space address len value) v legal.0 refl).running in cc
no_write_follows guest (Paint v i page byte ∷ past) legal s = let f = (op_facts guest past (Paint v i page byte) v legal.0 refl).running in cc
no_write_follows guest (Stopped ∷ past) legal s = refl
no_write_follows guest (e ∷ past) legal s = no_write_follows guest past legal.1 s

stopped_here : (later earlier : List Event) → stopped (later ++ Stopped ∷ earlier) ≡ true
stopped_here [] earlier = refl
stopped_here (Stopped ∷ later) earlier = refl
stopped_here (e ∷ later) earlier = stopped_here later earlier

page_stays : (guest : Guest) (later earlier : List Event) (page : ℕ) → IsLegalSoFar guest (later ++ Stopped ∷ earlier) → page_bytes guest page (later ++ Stopped ∷ earlier) ≡ page_bytes guest page earlier
page_stays guest [] earlier page legal = refl
page_stays guest (Write v i space address len value ∷ later) earlier page legal =
    let f : stopped (later ++ Stopped ∷ earlier) ≡ false = (op_facts guest (later ++ Stopped ∷ earlier) (Write v i space address len value) v legal.0 refl).running in
    let t : stopped (later ++ Stopped ∷ earlier) ≡ true = stopped_here later earlier in
    cc
page_stays guest (Paint v i q byte ∷ later) earlier page legal =
    let f : stopped (later ++ Stopped ∷ earlier) ≡ false = (op_facts guest (later ++ Stopped ∷ earlier) (Paint v i q byte) v legal.0 refl).running in
    let t : stopped (later ++ Stopped ∷ earlier) ≡ true = stopped_here later earlier in
    cc
page_stays guest (e ∷ later) earlier page legal = page_stays guest later earlier page legal.1

pub memory_stays : (guest : Guest) (later earlier : List Event) → IsLegalSoFar guest (later ++ Stopped ∷ earlier) → MemoryStays guest later earlier
memory_stays guest later earlier legal =
    map_below (λ page. page_bytes guest page (later ++ Stopped ∷ earlier)) (λ page. page_bytes guest page earlier) (page_count guest) (λ page l. page_stays guest later earlier page legal)

pub opens_last : (guest : Guest) (e : Event) (earlier : List Event) → IsLegalSoFar guest (e ∷ earlier) → OpensLast e earlier
opens_last guest e earlier legal s = opened_ends guest earlier e legal.0 s
