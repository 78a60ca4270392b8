use Rattle.std.proofs.Common.{arith, ◌∙◌, sym}
use Rattle.std.proofs.lemmas.Bool.Decides.{nat_tests}
use Rattle.dr_guestfile_lines.proofs.WordParts.{TakesWord, words_of-next, words_of-none}
use Rattle.dr_guestfile_lines.proofs.words.Words.next_word.Goals as goal

pub returns : goal.returns
returns c =
    let t : TakesWord c.self.inside.rest.now c.split_at-2.result.0.now c.split_at-2.result.1.now = record {
      rest = c.split_at.result.1.now;
      skips = rw (← c.blanks.ensures.count) c.split_at.ensures.back;
      takes = rw (← c.word_len.ensures.count) c.split_at-2.ensures.front;
      leaves = rw (← c.word_len.ensures.count) c.split_at-2.ensures.back;
    } in
    sym c.self.view_is ∙ words_of-next _ _ _ t (grind (arith, nat_tests))

pub returns-then-is_empty : goal.returns-then-is_empty
returns-then-is_empty c =
    let t : TakesWord c.self.inside.rest.now c.split_at-2.result.0.now c.split_at-2.result.1.now = record {
      rest = c.split_at.result.1.now;
      skips = rw (← c.blanks.ensures.count) c.split_at.ensures.back;
      takes = rw (← c.word_len.ensures.count) c.split_at-2.ensures.front;
      leaves = rw (← c.word_len.ensures.count) c.split_at-2.ensures.back;
    } in
    let h = words_of-none _ _ _ t (grind (arith, nat_tests)) in
    (sym c.self.view_is ∙ h.0, h.1)
