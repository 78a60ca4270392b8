-- What a row of the tables says of a run.
use Rattle.std.specs.Prelude.{◌≡◌, ℕ, Bool, List, [], ◌∷◌, codes, Option, Some, is_some, IfSome}
use Rattle.dr_types.specs.declared.status.Status.{Status}
use Rattle.dr_io.specs.Book.{Book, empty_book, told_by}
use Rattle.dr_machine.specs.Views.{KeptView}
use Rattle.dr_command.specs.Words.{command_of}
use Rattle.dr_plain.specs.Commands.{SaysOf}

-- the words of `step`
abbrev pub step_words : List (List ℕ)
step_words = codes "step" ∷ []

-- `step` over a file of these bytes left this status and these ports, and kept its machine or
-- not, as the top call says it may
pub record Leaves (bytes : List ℕ) (status : Option Status) (out : Book)
    (is_kept : Bool) : Type 0 where
  pub kept : Option KeptView
  pub is : is_some kept ≡ is_kept
  pub says : IfSome status (λ s. SaysOf (command_of step_words) s (Some bytes) kept
      (told_by (empty_book [])) (told_by out))
