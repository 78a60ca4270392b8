use Rattle.std.proofs.Common.{◌≡◌, reverse, take}
use Rattle.dr_core_speed.specs.Tallies.{tally_of, last_deposit}
use Rattle.dr_core_speed.proofs.tally.tally_of.Given as goal

abbrev pub invariant-loop-e : goal.invariant-loop-e
invariant-loop-e l =
    let past = reverse (take l.e-index l.events) in
    (l.tally ≡ tally_of past) × (l.last ≡ last_deposit past)
