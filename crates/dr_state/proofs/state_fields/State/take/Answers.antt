use Rattle.std.proofs.Common.{◌∙◌, ◌∷◌}
use Rattle.dr_history.specs.Legality.{IsLegalSoFar}
use Rattle.dr_state.proofs.Nexts.{opens_next}
use Rattle.dr_state.proofs.state_fields.State.take.Goals as goal

pub returns-clause-state : goal.returns-clause-state
returns-clause-state c = λ past kept h.
    let guest = c.args.guest.now in
    let legal : IsLegalSoFar guest (c.args.e.now ∷ past) = (kept, h.legal) in
    record {
      legal = legal;
      are_vcpus = c.take-2.ensures _ past h.are_vcpus;
      is_protection = c.take-3.ensures.state guest past legal (c.page_reset-reset.ensures.is guest past h) h.is_protection;
      protection_vcpus = c.take-3.ensures.sizes.0 ∙ h.protection_vcpus;
      protection_pages = c.take-3.ensures.sizes.1 ∙ h.protection_pages;
      is_running = c.take-4.ensures.state guest past h.is_running;
      are_entries = c.take-5.ensures _ past (opens_next guest past c.args.e.now legal) h.are_entries;
      are_rounds = c.take-6.ensures guest past h.are_rounds;
      is_memory = c.take-7.ensures.pages past h.is_memory;
      are_throttles = c.take.ensures past h.are_vcpus h.are_throttles;
    }
