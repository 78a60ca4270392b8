-- An event's words are read as that event.
use Rattle.std.proofs.Common.{◌≡◌, ℕ, true, [], ◌∷◌, length, Some, refl, arith}
use Rattle.std.specs.Prelude.{◌==◌, nat_le, codes}
use Rattle.std.proofs.lemmas.Bool.{le-leb}
use Rattle.std.proofs.lemmas.Bool.Decides.{nat_tests}
use Rattle.dr_types.specs.declared.guest.Why.{Why}
use Rattle.dr_types.specs.declared.guest.Why.TheVariants as reason
use Rattle.dr_types.specs.Lines.{low_bytes}
use Rattle.dr_history.specs.declared.event.Event.{Event}
use Rattle.dr_history.specs.declared.event.Event.TheVariants.{Start, Read, Write, Paint, Local, Halted, Opened, Filled, Pushed, Exited, Deposited, Reset, Flushed, Asked, Synced, Copied, Throttled, Stopped, Switched}
use Rattle.dr_history.specs.Lines.{FitsLine, why_word, event_words}
use Rattle.dr_text_law.specs.Events.{why_of, event_of}
use Rattle.dr_text_law.proofs.Words.{u32_again, u64_again, spaced_number_again, numbers_again, is_byte, byte_again, bytes_again, low_fit, value_again, low_long}
use Rattle.dr_text_law.proofs.Lexing.{AllAbove, AreWords, written, spaced_above, wide, narrow, number_words, hex_word}

-- the word for why a vCPU left the guest says it
why_again : (why : Why) → why_of (why_word why) ≡ Some why
why_again reason.Halted = refl
why_again reason.Stopped = refl
why_again reason.Kicked = refl
why_again reason.Full = refl
why_again reason.Yield = refl

-- the words of a Write say it
write_again : (v i space address len value : ℕ) → FitsLine (Write v i space address len value) → event_of (event_words (Write v i space address len value)) ≡ Some (Write v i space address len value)
write_again v i space address len value is =
    let some : nat_le 1 len ≡ true = le-leb _ _ is.4 in
    let few : nat_le len 8 ≡ true = le-leb _ _ is.5 in
    let bytes = bytes_again (low_bytes len value) (low_fit len value) in
    rw (u32_again v is.0, u32_again i is.1, spaced_number_again space address is.2 is.3, bytes, low_long len value is.5, some, few, value_again len value is.4 is.5 is.6) refl

-- what an event's words say is that event
pub event_again : (e : Event) → FitsLine e → event_of (event_words e) ≡ Some e
event_again (Start at) is = rw (u64_again at is) refl
event_again (Read v i space address value) is = rw (u32_again v is.0, u32_again i is.1, spaced_number_again space address is.2 is.3, u64_again value is.4) refl
event_again (Write v i space address len value) is = write_again v i space address len value is
event_again (Paint v i page byte) is = rw (u32_again v is.0, u32_again i is.1, u32_again page is.2, byte_again byte is.3) refl
event_again (Local v i) is = rw (u32_again v is.0, u32_again i is.1) refl
event_again (Halted v i) is = rw (u32_again v is.0, u32_again i is.1) refl
event_again (Opened v k page) is = rw (u32_again v is.0, u64_again k is.1, u32_again page is.2) refl
event_again (Filled v page) is = rw (u32_again v is.0, u32_again page is.1) refl
event_again (Pushed v k) is = rw (u32_again v is.0, u64_again k is.1) refl
event_again (Exited v why) is = rw (u32_again v is, why_again why) refl
event_again (Deposited v from to) is = rw (u32_again v is.0, u64_again from is.1, u64_again to is.2) refl
event_again (Reset v k) is = rw (u32_again v is.0, u64_again k is.1) refl
event_again Flushed is = refl
event_again (Asked r) is = rw (u32_again r is) refl
event_again (Synced r at pages) is =
    let counted : (length pages == length pages) ≡ true = grind (arith, nat_tests) in
    rw (u32_again r is.0, u64_again at is.1, u64_again (length pages) is.2, numbers_again pages is.3, counted) refl
event_again (Copied r page) is = rw (u32_again r is.0, u32_again page is.1) refl
event_again (Throttled v us) is = rw (u32_again v is.0, u64_again us is.1) refl
event_again Stopped is = refl
event_again Switched is = refl

-- no space and no line feed stands in the word for why a vCPU left the guest
why_plain : (why : Why) → AllAbove (why_word why)
why_plain reason.Halted = written (codes "halted") refl
why_plain reason.Stopped = written (codes "stopped") refl
why_plain reason.Kicked = written (codes "kicked") refl
why_plain reason.Full = written (codes "full") refl
why_plain reason.Yield = written (codes "yield") refl

-- no space and no line feed stands in an event's words
pub event_plain : (e : Event) → FitsLine e → AreWords (event_words e)
event_plain (Start at) is = (written (codes "start") refl, (wide at is, tt))
event_plain (Read v i space address value) is = (written (codes "r") refl, (narrow v is.0, (narrow i is.1, (spaced_above space address is.3, (wide value is.4, tt)))))
event_plain (Write v i space address len value) is = (written (codes "w") refl, (narrow v is.0, (narrow i is.1, (spaced_above space address is.3, (hex_word (low_bytes len value) (low_fit len value), tt)))))
event_plain (Paint v i page byte) is = (written (codes "f") refl, (narrow v is.0, (narrow i is.1, (narrow page is.2, (hex_word (byte ∷ []) (is_byte byte is.3), tt)))))
event_plain (Local v i) is = (written (codes "l") refl, (narrow v is.0, (narrow i is.1, tt)))
event_plain (Halted v i) is = (written (codes "h") refl, (narrow v is.0, (narrow i is.1, tt)))
event_plain (Opened v k page) is = (written (codes "o") refl, (narrow v is.0, (wide k is.1, (narrow page is.2, tt))))
event_plain (Filled v page) is = (written (codes "c") refl, (narrow v is.0, (narrow page is.1, tt)))
event_plain (Pushed v k) is = (written (codes "p") refl, (narrow v is.0, (wide k is.1, tt)))
event_plain (Exited v why) is = (written (codes "x") refl, (narrow v is, (why_plain why, tt)))
event_plain (Deposited v from to) is = (written (codes "d") refl, (narrow v is.0, (wide from is.1, (wide to is.2, tt))))
event_plain (Reset v k) is = (written (codes "z") refl, (narrow v is.0, (wide k is.1, tt)))
event_plain Flushed is = (written (codes "flush") refl, tt)
event_plain (Asked r) is = (written (codes "ask") refl, (narrow r is, tt))
event_plain (Synced r at pages) is = (written (codes "sync") refl, (narrow r is.0, (wide at is.1, (wide (length pages) is.2, number_words pages is.3))))
event_plain (Copied r page) is = (written (codes "copy") refl, (narrow r is.0, (narrow page is.1, tt)))
event_plain (Throttled v us) is = (written (codes "t") refl, (narrow v is.0, (wide us is.1, tt)))
event_plain Stopped is = (written (codes "stop") refl, tt)
event_plain Switched is = (written (codes "switched") refl, tt)
