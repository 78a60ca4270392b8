-- What an advance leaves of the page that it copies.
use Rattle.std.proofs.Common.{◌≡◌, ℕ, List, refl}
use Rattle.dr_types.specs.declared.guest.Guest.{Guest}
use Rattle.dr_history.specs.declared.event.Event.{Event}
use Rattle.dr_history.specs.Legality.{IsLegalSoFar}
use Rattle.dr_turns.specs.Due.{advanced}
use Rattle.dr_turns.specs.declared.answers.Advance.{Advance}
use Rattle.dr_turns.specs.declared.answers.Advance.TheVariants as advance
use Rattle.dr_turns_law.proofs.Cases.{IsWait, advanced_cases}
use Rattle.dr_turns_law.proofs.Copying.{left_within}
use Rattle.dr_machine.specs.Copies.{copied_into, CopiesWithin}

-- it is one of the guest's, and its bytes are the same before and after
record CopyLeft (guest : Guest) (past : List Event) (p : Advance × List Event) : Type 0 where
  within : CopiesWithin guest p.0
  bytes : (before : List ℕ) → copied_into guest p.1 p.0 before ≡ copied_into guest past p.0 before

none_copied : (guest : Guest) (past : List Event) (a : Advance) → IsWait a → CopyLeft guest past (a, past)
none_copied guest past (advance.NotPaced v done) is = record { within = tt; bytes = λ before. refl }
none_copied guest past (advance.NotOut v) is = record { within = tt; bytes = λ before. refl }
none_copied guest past (advance.NotReset v k) is = record { within = tt; bytes = λ before. refl }
none_copied guest past advance.NotFlushed is = record { within = tt; bytes = λ before. refl }
none_copied guest past advance.Finished is = record { within = tt; bytes = λ before. refl }
none_copied guest past advance.Budget is = record { within = tt; bytes = λ before. refl }
none_copied guest past a is = absurd is

copy_left : (guest : Guest) (now : ℕ) (past : List Event) → IsLegalSoFar guest past → CopyLeft guest past (advanced guest now past)
copy_left guest now past legal =
    advanced_cases (CopyLeft guest past) guest now past (record {
      waits = λ a is. none_copied guest past a is;
      starts = λ due. record { within = tt; bytes = λ before. refl };
      answers = λ r due. record { within = tt; bytes = λ before. refl };
      copies = λ page due alone. record { within = left_within guest past page legal due.next; bytes = λ before. refl };
      blanks = λ page n due zeros. record { within = tt; bytes = λ before. refl };
      asks_last = λ on stop fresh. record { within = tt; bytes = λ before. refl };
      switches = λ on stop asked. record { within = tt; bytes = λ before. refl };
      stops = λ on runs few. record { within = tt; bytes = λ before. refl };
      asks_first = λ on runs none more. record { within = tt; bytes = λ before. refl };
      asks_later = λ on runs many more some paced. record { within = tt; bytes = λ before. refl };
    })

-- by what the advance answered
pub copies_within : (guest : Guest) (now : ℕ) (past : List Event) (a : Advance) → IsLegalSoFar guest past → a ≡ (advanced guest now past).0 → CopiesWithin guest a
copies_within guest now past a legal answer = rw answer ((copy_left guest now past legal).within)

pub same_bytes : (guest : Guest) (now : ℕ) (old new : List Event) (a : Advance) (before : List ℕ) → IsLegalSoFar guest old → a ≡ (advanced guest now old).0 → new ≡ (advanced guest now old).1 → copied_into guest new a before ≡ copied_into guest old a before
same_bytes guest now old new a before legal answer past = rw (answer, past) ((copy_left guest now old legal).bytes before)
