-- Where all rounds were asked and the last left too many pages.
use Rattle.std.proofs.Common.{◌≡◌, ℕ, zero, suc, ◌≤◌, Bool, true, false, cond, List, ◌∷◌, Option, Some, None, is_some, refl, ap, ◌∙◌}
use Rattle.std.specs.Prelude.{◌&&◌, ◌==◌, ◌↔◌, not, nat_le, nat_lt}
use Rattle.std.specs.List.{list_any}
use Rattle.std.proofs.lemmas.Bool.{le-leb, leb-true, ltb-false, le-ltb}
use Rattle.dr_types.specs.declared.guest.Guest.{Guest}
use Rattle.dr_history.specs.declared.event.Event.{Event}
use Rattle.dr_history.specs.declared.event.Event.TheVariants.{Stopped}
use Rattle.dr_history.specs.Kinds.{is_asked, is_stopped, is_switched}
use Rattle.dr_history.specs.Lookback.{since}
use Rattle.dr_history.specs.Protection.{started}
use Rattle.dr_history.specs.Vcpus.{stopped}
use Rattle.dr_history.specs.Rounds.{asks, unanswered, last_synced, few_answered}
use Rattle.dr_turns.specs.declared.answers.Advance.{Advance}
use Rattle.dr_turns.specs.declared.answers.Advance.TheVariants as advance
use Rattle.dr_turns.specs.Firsts.{first_unpaced, first_kicked, first_unreset}
use Rattle.dr_turns.specs.Due.{begun, some_closing, answered_after, reset_answer, answered, page_to_copy, zeros_to_copy, copied_together, round_of, asked, asked_where_paced, next_round, after_stop, after_copies, copied, answered_or_copied, advanced, is_spent}

-- nothing is due any more, but the last answer has too many pages
record Spent (guest : Guest) (past : List Event) : Type 0 where
  begun : started past ≡ true
  answered : unanswered past ≡ None
  copied : page_to_copy guest past ≡ None
  here : list_any is_switched past ≡ false
  runs : stopped past ≡ false
  many : few_answered guest (last_synced past) ≡ false
  asked : guest.settings.rounds ≤ asks past

-- these tests together
spent_tests : (a b c d e f g : Bool) → a ≡ true → b ≡ false → c ≡ false → d ≡ false → e ≡ false → f ≡ false → g ≡ true → (a && not b && not c && not d && not e && not f && g) ≡ true
spent_tests a b c d e f g ha hb hc hd he hf hg = rw (ha, hb, hc, hd, he, hf, hg) refl

some_none : {X : Type 0} (o : Option X) → is_some o ≡ false → o ≡ None
some_none None h = refl
some_none (Some x) h = cc

none_some : {X : Type 0} (o : Option X) → o ≡ None → is_some o ≡ false
none_some None h = refl
none_some (Some x) h = cc

spent_is : (guest : Guest) (past : List Event) → Spent guest past → is_spent guest past ≡ true
unfolding is_spent
spent_is guest past s =
    spent_tests (started past) (is_some (unanswered past)) (is_some (page_to_copy guest past)) (list_any is_switched past) (stopped past) (few_answered guest (last_synced past)) (nat_le guest.settings.rounds (asks past))
    s.begun (none_some (unanswered past) s.answered) (none_some (page_to_copy guest past) s.copied) s.here s.runs s.many (le-leb guest.settings.rounds (asks past) s.asked)

test_parts : (a b c d e f g : Bool) → (a && not b && not c && not d && not e && not f && g) ≡ true → (a ≡ true) × (b ≡ false) × (c ≡ false) × (d ≡ false) × (e ≡ false) × (f ≡ false) × (g ≡ true)
test_parts true false false false false false true h = (refl, refl, refl, refl, refl, refl, refl)
test_parts a b c d e f g h = cc

spent_facts : (guest : Guest) (past : List Event) → is_spent guest past ≡ true → Spent guest past
unfolding is_spent
spent_facts guest past h =
    let p = test_parts (started past) (is_some (unanswered past)) (is_some (page_to_copy guest past)) (list_any is_switched past) (stopped past) (few_answered guest (last_synced past)) (nat_le guest.settings.rounds (asks past)) h in
    record { begun = p.0; answered = some_none (unanswered past) p.1; copied = some_none (page_to_copy guest past) p.2; here = p.3; runs = p.4; many = p.5; asked = leb-true guest.settings.rounds (asks past) p.6 }

-- no other advance answers so
begun_other : (now : ℕ) (past : List Event) (o : Option ℕ) → (begun now past o).0 ≡ advance.Budget → ⊥
begun_other now past None h = cc
begun_other now past (Some v) h = cc

flushed_other : (closing : Bool) (n r : ℕ) (a b : List Event) → (cond {A = Advance × List Event} closing (advance.NotFlushed, a) (advance.Answered r n, b)).0 ≡ advance.Budget → ⊥
flushed_other true n r a b h = cc
flushed_other false n r a b h = cc

reset_other : (guest : Guest) (now r : ℕ) (past : List Event) (o : Option ℕ) → (reset_answer guest now r past o).0 ≡ advance.Budget → ⊥
reset_other guest now r past None h = flushed_other (some_closing guest past) _ r past (answered_after guest r now past) h
reset_other guest now r past (Some v) h = cc

answered_other : (guest : Guest) (now r : ℕ) (past : List Event) (o : Option ℕ) → (answered guest now r past o).0 ≡ advance.Budget → ⊥
answered_other guest now r past None h = reset_other guest now r past (first_unreset guest past) h
answered_other guest now r past (Some v) h = cc

paced_other : (past : List Event) (o : Option ℕ) → (asked_where_paced past o).0 ≡ advance.Budget → ⊥
paced_other past None h = cc
paced_other past (Some v) h = cc

next_case : (first : Bool) (past : List Event) (o : Option ℕ) → (cond first (asked past) (asked_where_paced past o)).0 ≡ advance.Budget → ⊥
next_case true past o h = cc
next_case false past o h = paced_other past o h

stop_case : (had : Bool) (r : ℕ) (a b : List Event) → (cond {A = Advance × List Event} had (advance.Switched, a) (advance.Asked r, b)).0 ≡ advance.Budget → ⊥
stop_case true r a b h = cc
stop_case false r a b h = cc

-- the tests that lead there
copies_case : (switched stop few more : Bool) (past a : List Event) (after next : Advance × List Event) → (after.0 ≡ advance.Budget → ⊥) → (next.0 ≡ advance.Budget → ⊥)
    → (cond {A = Advance × List Event} switched (advance.Finished, past) (cond stop after (cond few (advance.Stopping, a) (cond more next (advance.Budget, past))))).0 ≡ advance.Budget
    → (switched ≡ false) × (stop ≡ false) × (few ≡ false) × (more ≡ false)
copies_case true stop few more past a after next f g h = cc
copies_case false true few more past a after next f g h = absurd (f h)
copies_case false false true more past a after next f g h = cc
copies_case false false false true past a after next f g h = absurd (g h)
copies_case false false false false past a after next f g h = (refl, refl, refl, refl)

-- where no page is left
record Last (guest : Guest) (past : List Event) : Type 0 where
  here : list_any is_switched past ≡ false
  runs : stopped past ≡ false
  many : few_answered guest (last_synced past) ≡ false
  asked : guest.settings.rounds ≤ asks past

after_last : (guest : Guest) (past : List Event) → (after_copies guest past).0 ≡ advance.Budget → Last guest past
after_last guest past h =
    let p = copies_case (list_any is_switched past) (stopped past) (few_answered guest (last_synced past)) (nat_lt (asks past) guest.settings.rounds) past (Stopped ∷ past) (after_stop past) (next_round guest past)
    (stop_case (list_any is_asked (since is_stopped past)) _ _ _) (next_case (asks past == 0) past (first_unpaced guest (since is_asked past) past)) h in
    record { here = p.0; runs = p.1; many = p.2; asked = ltb-false (asks past) guest.settings.rounds p.3 }

together_other : (r page n : ℕ) (past : List Event) → (copied_together r page n past).0 ≡ advance.Budget → ⊥
together_other r page zero past h = cc
together_other r page (suc n) past h = cc

copied_case : (guest : Guest) (past : List Event) (page : Option ℕ) → (copied guest past page).0 ≡ advance.Budget → (page ≡ None) × Last guest past
copied_case guest past None h = (refl, after_last guest past h)
copied_case guest past (Some page) h = absurd (together_other (round_of (last_synced past)) page (zeros_to_copy guest past page) past h)

round_case : (guest : Guest) (now : ℕ) (past : List Event) (r : Option ℕ) → (answered_or_copied guest now past r).0 ≡ advance.Budget → (r ≡ None) × (page_to_copy guest past ≡ None) × Last guest past
round_case guest now past None h = let c = copied_case guest past (page_to_copy guest past) h in (refl, c.0, c.1)
round_case guest now past (Some r) h = absurd (answered_other guest now r past (first_kicked guest past) h)

begun_case : (s : Bool) (a b : Advance × List Event) → (b.0 ≡ advance.Budget → ⊥) → (cond s a b).0 ≡ advance.Budget → (s ≡ true) × (a.0 ≡ advance.Budget)
begun_case true a b f h = (refl, h)
begun_case false a b f h = absurd (f h)

-- that answer comes only there
due_spent : (guest : Guest) (now : ℕ) (past : List Event) → (advanced guest now past).0 ≡ advance.Budget → Spent guest past
unfolding advanced
due_spent guest now past h =
    let b = begun_case (started past) (answered_or_copied guest now past (unanswered past)) (begun now past (first_unpaced guest past past)) (begun_other now past (first_unpaced guest past past)) h in
    let c = round_case guest now past (unanswered past) b.1 in
    record { begun = b.0; answered = c.0; copied = c.1; here = c.2.here; runs = c.2.runs; many = c.2.many; asked = c.2.asked }

last_after : (guest : Guest) (past : List Event) (switched stop few more : Bool) (a : List Event) (after next : Advance × List Event) → switched ≡ false → stop ≡ false → few ≡ false → more ≡ false
    → cond switched (advance.Finished, past) (cond stop after (cond few (advance.Stopping, a) (cond more next (advance.Budget, past)))) ≡ (advance.Budget, past)
last_after guest past switched stop few more a after next hs ht hf hm = rw (hs, ht, hf, hm) refl

spent_after : (guest : Guest) (past : List Event) → Spent guest past → after_copies guest past ≡ (advance.Budget, past)
spent_after guest past s =
    last_after guest past (list_any is_switched past) (stopped past) (few_answered guest (last_synced past)) (nat_lt (asks past) guest.settings.rounds) (Stopped ∷ past) (after_stop past) (next_round guest past)
    s.here s.runs s.many (le-ltb (asks past) guest.settings.rounds s.asked)

begun_due : (s : Bool) (a b c : Advance × List Event) → s ≡ true → a ≡ c → cond s a b ≡ c
begun_due true a b c h k = k
begun_due false a b c h k = cc

-- there that answer comes, and nothing else
spent_due : (guest : Guest) (now : ℕ) (past : List Event) → Spent guest past → advanced guest now past ≡ (advance.Budget, past)
unfolding advanced
spent_due guest now past s =
    begun_due (started past) (answered_or_copied guest now past (unanswered past)) (begun now past (first_unpaced guest past past)) (advance.Budget, past) s.begun
    (ap (answered_or_copied guest now past) s.answered ∙ ap (copied guest past) s.copied ∙ spent_after guest past s)

-- the migrator answers that the budget is spent exactly where it is
pub budget_is_spent : (guest : Guest) (now : ℕ) (past : List Event) → ((advanced guest now past).0 ≡ advance.Budget) ↔ (is_spent guest past ≡ true)
budget_is_spent guest now past =
    (λ h. spent_is guest past (due_spent guest now past h), λ h. ap (λ (p : Advance × List Event). p.0) (spent_due guest now past (spent_facts guest past h)))

-- and then no event comes
pub spent_stays : (guest : Guest) (now : ℕ) (past : List Event) → (advanced guest now past).0 ≡ advance.Budget → (advanced guest now past).1 ≡ past
spent_stays guest now past h = ap (λ (p : Advance × List Event). p.1) (spent_due guest now past (due_spent guest now past h))
