use Rattle.std.proofs.Common.{◌≡◌, ℕ, ◌+◌, ◌<◌, List, Option, Some, None, map, string_bytes, length, drop, ap, sym, ◌∙◌, arith}
use Rattle.dr_command.specs.declared.paths.Paths.{Paths}
use Rattle.dr_command.specs.Words.{paths_from, with_option}
use Rattle.dr_command.proofs.Options.{half_option, none_from, whole_option}
use Rattle.dr_command.proofs.paths.read_paths.Goals as goal

pub returns-then-at-words : goal.returns-then-at-words
returns-then-at-words c = sym (c.loop-at.invariant ∙ half_option string_bytes c.args.words.now c.loop-at.at c.loop-at.paths c.if-at-words.true)

pub returns-in_err-paths : goal.returns-in_err-paths
returns-in_err-paths c =
    let words = map string_bytes c.args.words.now in
    let at = c.loop-at.at in
    let lt : at + 1 < length c.args.words.now = omega arith in
    let name = c.index-words-at.result in
    let path = c.index-words-at-in-loop-at.result in
    let says : with_option c.loop-at.paths (string_bytes name) (string_bytes path) (at + 1) ≡ None =
    ap (λ (n : List ℕ). with_option c.loop-at.paths n (string_bytes path) (at + 1)) (sym c.as_str.ensures.value)
    ∙ ap (λ (p : List ℕ). with_option c.loop-at.paths c.as_str.result.now p (at + 1)) (sym c.as_str-in-loop-at.ensures.value)
    ∙ sym c.with_option.ensures ∙ c.in_err-paths.was in
    c.from_residual.ensures
    ∙ sym (c.loop-at.invariant ∙ whole_option string_bytes c.args.words.now at name path c.loop-at.paths lt c.index-words-at.is c.index-words-at-in-loop-at.is
    ∙ ap (λ (said : Option Paths). paths_from (drop (at + 2) words) (at + 2) said) says ∙ none_from (drop (at + 2) words) (at + 2))

pub loop-at-preserved : goal.loop-at-preserved
loop-at-preserved c =
    let words = map string_bytes c.args.words.now in
    let at = c.loop-at.at in
    let lt : at + 1 < length c.args.words.now = omega arith in
    let name = c.index-words-at.result in
    let path = c.index-words-at-in-loop-at.result in
    let says : with_option c.loop-at.paths (string_bytes name) (string_bytes path) (at + 1) ≡ Some c.in_ok-paths.paths =
    ap (λ (n : List ℕ). with_option c.loop-at.paths n (string_bytes path) (at + 1)) (sym c.as_str.ensures.value)
    ∙ ap (λ (p : List ℕ). with_option c.loop-at.paths c.as_str.result.now p (at + 1)) (sym c.as_str-in-loop-at.ensures.value)
    ∙ sym c.with_option.ensures ∙ c.in_ok-paths.was in
    c.loop-at.invariant ∙ whole_option string_bytes c.args.words.now at name path c.loop-at.paths lt c.index-words-at.is c.index-words-at-in-loop-at.is
    ∙ ap (λ (said : Option Paths). paths_from (drop (at + 2) words) (at + 2) said) says
