use Rattle.std.proofs.Common.{◌∙◌, rules}
use Rattle.dr_ring.proofs.Masks.{masked}
use Rattle.dr_ring.proofs.Opening.{opens}
use Rattle.dr_ring.proofs.words.Words.new.Goals as goal

pub of_words-requires : goal.of_words-requires
of_words-requires c = opens _ _ c.requires.some (c.as_slice.ensures.value ∙ c.in_ok-zeros.ensures.items_if_clones_equal (search rules))

pub invariant_of-result-clause-masked : goal.invariant_of-result-clause-masked
invariant_of-result-clause-masked c = λ k. masked c.args.size k c.requires.power
