-- Which event is the first that breaks a rule.
use Rattle.std.proofs.Common.{◌≡◌, ◌⊎◌, inl, inr, ℕ, Bool, true, false, cond, List, [], ◌∷◌, length, Option, Some, None, refl, ap, sym}
use Rattle.std.proofs.lemmas.Bool.{false≢true}
use Rattle.dr_types.specs.declared.guest.Guest.{Guest}
use Rattle.dr_history.specs.declared.event.Event.{Event}
use Rattle.dr_history.specs.Rules.{may_end}
use Rattle.dr_history.specs.Legality.{IsLegalSoFar, broken, fault_at, or_fault, first_fault, end_fault}
use Rattle.dr_history_law.specs.First.{NoneIsLegal, BreaksAt, SomeIsFirst}

neither : (a b : Option (ℕ × ℕ)) → or_fault a b ≡ None → (a ≡ None) × (b ≡ None)
neither None b h = (refl, h)
neither (Some f) b h = cc

both_none : (a b : Option (ℕ × ℕ)) → a ≡ None → b ≡ None → or_fault a b ≡ None
both_none None b h k = k
both_none (Some f) b h k = h

first_some : (a b : Option (ℕ × ℕ)) (f : ℕ × ℕ) → or_fault a b ≡ Some f → (a ≡ Some f) ⊎ ((a ≡ None) × (b ≡ Some f))
first_some None b f h = inr (refl, h)
first_some (Some g) b f h = inl h

unfaulted : (n : ℕ) (o : Option ℕ) → fault_at n o ≡ None → o ≡ None
unfaulted n None h = refl
unfaulted n (Some rule) h = cc

no_fault : (n : ℕ) (o : Option ℕ) → o ≡ None → fault_at n o ≡ None
no_fault n None h = refl
no_fault n (Some rule) h = cc

fault_parts : (n place rule : ℕ) (o : Option ℕ) → fault_at n o ≡ Some (place, rule) → (n ≡ place) × (o ≡ Some rule)
fault_parts n place rule None h = cc
fault_parts n place rule (Some r) h =
    let same : (n, r) ≡ (place, rule) = cc in
    (ap (λ (f : ℕ × ℕ). f.0) same, ap (λ (f : ℕ × ℕ). Some (f.1)) same)

none_legal : (guest : Guest) (past : List Event) → first_fault guest past ≡ None → IsLegalSoFar guest past
none_legal guest [] h = tt
none_legal guest (e ∷ past) h =
    let parts = neither (first_fault guest past) (fault_at (length past) (broken guest past e)) h in
    (unfaulted (length past) (broken guest past e) parts.1, none_legal guest past parts.0)

legal_none : (guest : Guest) (past : List Event) → IsLegalSoFar guest past → first_fault guest past ≡ None
legal_none guest [] legal = refl
legal_none guest (e ∷ past) legal =
    both_none (first_fault guest past) (fault_at (length past) (broken guest past e)) (legal_none guest past legal.1) (no_fault (length past) (broken guest past e) legal.0)

end_none : (ends : Bool) (f : ℕ × ℕ) → cond ends None (Some f) ≡ None → ends ≡ true
end_none true f h = refl
end_none false f h = cc

end_legal : (ends : Bool) (f : ℕ × ℕ) → ends ≡ true → cond ends None (Some f) ≡ None
end_legal true f h = refl
end_legal false f h = absurd (false≢true h)

pub none_is_legal : (guest : Guest) (past : List Event) → NoneIsLegal guest past
none_is_legal guest past = (
  (λ h.
      let parts = neither (first_fault guest past) (end_fault guest past) h in
      (none_legal guest past parts.0, end_none (may_end guest past) (length past, 26) parts.1)),
  (λ legal. both_none (first_fault guest past) (end_fault guest past) (legal_none guest past legal.0) (end_legal (may_end guest past) (length past, 26) legal.1)),
)

one_later : (guest : Guest) (past : List Event) (e : Event) (place rule : ℕ) → BreaksAt guest past place rule → BreaksAt guest (e ∷ past) place rule
one_later guest past e place rule b =
    record { later = e ∷ b.later; event = b.event; earlier = b.earlier; parts = ap (λ (es : List Event). e ∷ es) b.parts; at = b.at; legal = b.legal; breaks = b.breaks }

fault_breaks : (guest : Guest) (past : List Event) (place rule : ℕ) → first_fault guest past ≡ Some (place, rule) → BreaksAt guest past place rule
fault_breaks guest [] place rule h = cc
fault_breaks guest (e ∷ past) place rule h =
    elim (first_some (first_fault guest past) (fault_at (length past) (broken guest past e)) (place, rule) h) [
      | inl f ↦ one_later guest past e place rule (fault_breaks guest past place rule f)
      | inr f ↦
          let parts = fault_parts (length past) place rule (broken guest past e) f.1 in
          record { later = []; event = e; earlier = past; parts = refl; at = parts.0; legal = none_legal guest past f.0; breaks = parts.1 }
    ]

abbrev or_end : Bool → ℕ → ℕ → Option (ℕ × ℕ)
or_end ends n last = cond ends None (Some (n, last))

end_parts : (ends : Bool) (n last place rule : ℕ) → or_end ends n last ≡ Some (place, rule) → (ends ≡ false) × (n ≡ place) × (rule ≡ last)
end_parts true n last place rule h = cc
end_parts false n last place rule h =
    let same : (n, last) ≡ (place, rule) = cc in
    (refl, ap (λ (f : ℕ × ℕ). f.0) same, sym (ap (λ (f : ℕ × ℕ). f.1) same))

pub some_is_first : (guest : Guest) (past : List Event) → SomeIsFirst guest past
some_is_first guest past place rule h =
    elim (first_some (first_fault guest past) (end_fault guest past) (place, rule) h) [
      | inl f ↦ inl (fault_breaks guest past place rule f)
      | inr f ↦
          let parts = end_parts (may_end guest past) (length past) 26 place rule f.1 in
          inr (record { legal = none_legal guest past f.0; owes = parts.0; at = parts.1; number = parts.2 })
    ]
