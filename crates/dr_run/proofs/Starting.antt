-- What a run begins with.
use Rattle.std.proofs.Common.{◌≡◌, ℕ, zero, suc, ◌<◌, List, [], ◌∷◌, map, length, All, refl, arith, sym, subst, ◌∙◌}
use Rattle.atomic_table.specs.Seated.{TableId}
use Rattle.dr_types.specs.declared.guest.Guest.{Guest}
use Rattle.dr_types.specs.Scripts.{vcpu_count}
use Rattle.dr_ring.specs.Seats.{UserView, new_user}
use Rattle.dr_ring_set.specs.Seated.{HasAt}
use Rattle.dr_collector.specs.Collected.{Collected, begun}
use Rattle.dr_schedule_law.specs.Reaps.{AreFirstDeposited}
use Rattle.dr_schedule_law.proofs.KeptDeposits.{no_deposits}
use Rattle.dr_reap.specs.Harvests.{AllDeposited}

of_new : (rings : List TableId) → All (λ s. s.harvested ≡ []) (map new_user rings)
of_new [] k d lt = absurd (omega (arith, lt))
of_new (id ∷ ids) zero d lt = refl
of_new (id ∷ ids) (suc k) d lt = of_new ids k d (omega (arith, lt))

-- new seats harvested nothing
pub none_harvested : (rings : List TableId) (users : List UserView) → users ≡ map new_user rings → All (λ s. s.harvested ≡ []) users
none_harvested rings users is = subst (All (λ s. s.harvested ≡ [])) (sym is) (of_new rings)

begun_at : (rings : List TableId) (v : ℕ) → v < length rings → HasAt (map begun (map new_user rings)) v (λ c. c.handed ≡ 0)
begun_at [] v lt = absurd (omega (arith, lt))
begun_at (id ∷ ids) zero lt = (begun (new_user id), refl, refl)
begun_at (id ∷ ids) (suc v) lt = begun_at ids v (omega (arith, lt))

-- a collector of new seats is in step with no event
pub first_all_deposited : (guest : Guest) (rings : List TableId) (users : List UserView) (collected : List Collected) → length rings ≡ vcpu_count guest
    → users ≡ map new_user rings → collected ≡ map begun users → AllDeposited guest [] collected
first_all_deposited guest rings users collected count new is = record {
  each = λ v lt.
      let at = begun_at rings v (omega (arith, lt, count)) in
      subst (λ (cs : List Collected). HasAt cs v (λ c. AreFirstDeposited v c.handed [])) (sym (is ∙ subst (λ (us : List UserView). map begun us ≡ map begun (map new_user rings)) (sym new) refl))
      (at.0, at.1, subst (λ (n : ℕ). AreFirstDeposited v n []) (sym at.2) ((no_deposits guest).each v lt));
}
