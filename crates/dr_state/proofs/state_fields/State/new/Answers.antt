use Rattle.std.proofs.Common.{◌≡◌, ◌∙◌, sym, refl, ap, subst, ℕ, []}
use Rattle.dr_types.specs.Scripts.{vcpu_count}
use Rattle.dr_state.specs.Rows.{rows_of}
use Rattle.dr_state.specs.Opened.{AreEntries}
use Rattle.dr_memory.specs.Stores.{Store}
use Rattle.dr_state.proofs.Firsts.{no_memory}
use Rattle.dr_state.proofs.state_fields.State.new.Goals as goal

pub returns : goal.returns
returns c =
    let guest = c.args.guest.now in
    let count : c.len-vcpus.result ≡ vcpu_count guest = c.len-vcpus.ensures in
    record {
      legal = tt;
      are_vcpus = c.in_ok-new.ensures ∙ ap (λ n. rows_of n []) count;
      is_protection = c.in_ok-new-2.ensures.flags;
      protection_vcpus = c.in_ok-new-2.ensures.vcpus ∙ count;
      protection_pages = c.in_ok-new-2.ensures.pages;
      is_running = c.in_ok-new-3.ensures;
      are_entries = subst (λ (n : ℕ). AreEntries n [] c.in_ok-new-4.field-0) count c.in_ok-new-4.ensures;
      are_rounds = c.new-5.ensures guest refl;
      is_memory = no_memory guest _ _ c.page_count-pages.ensures (ap (λ (it : Store). it.pages) c.in_ok-new-5.ensures);
      are_throttles = c.in_ok-new-6.ensures guest (sym count);
    }
