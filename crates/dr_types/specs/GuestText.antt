-- The canonical text of a guest: its lines, each of them its words with one space between two.
use Rattle.std.specs.Prelude.{ℕ, List, [], ◌∷◌, ◌++◌, map, codes, decimal}
use Rattle.std.specs.List.{flat_map}
use Rattle.hex.specs.Hex.{encode_lower}
use Rattle.dr_types.specs.declared.guest.Settings.{Settings}
use Rattle.dr_types.specs.declared.guest.SlotRow.{SlotRow}
use Rattle.dr_types.specs.declared.guest.Op.{Op}
use Rattle.dr_types.specs.declared.guest.Op.TheVariants.{W, F, R, A, S, Nap, Halt}
use Rattle.dr_types.specs.declared.guest.Item.{Item}
use Rattle.dr_types.specs.declared.guest.Item.TheVariants.{One, Rep}
use Rattle.dr_types.specs.declared.guest.Guest.{Guest}
use Rattle.dr_types.specs.Lines.{named, lines_text, low_bytes}
use Rattle.dr_types.specs.Spaces.{spaced_word}

abbrev pub settings_lines : Settings → List (List (List ℕ))
settings_lines s =
    named (codes "ring") s.ring ∷ named (codes "reserve") s.reserve
    ∷ named (codes "buffer") s.buffer
    ∷ named (codes "pace") s.pace ∷ named (codes "threshold") s.threshold
    ∷ named (codes "rounds") s.rounds
    ∷ named (codes "quota") s.quota ∷ []

abbrev pub slot_line : SlotRow → List (List ℕ)
slot_line row =
    codes "slot" ∷ spaced_word row.space row.id ∷ decimal row.base ∷ decimal row.pages ∷ []

abbrev pub op_line : Op → List (List ℕ)
op_line (W space address len value) =
    codes "w" ∷ spaced_word space address ∷ encode_lower (low_bytes len value) ∷ []
op_line (F space frame byte) =
    codes "f" ∷ spaced_word space frame ∷ encode_lower (byte ∷ []) ∷ []
op_line (R space address) = codes "r" ∷ spaced_word space address ∷ []
op_line (A n) = named (codes "a") n
op_line (S space address) = codes "s" ∷ spaced_word space address ∷ []
op_line (Nap us) = named (codes "nap") us
op_line Halt = codes "halt" ∷ []

abbrev pub item_lines : Item → List (List (List ℕ))
item_lines (One op) = op_line op ∷ []
item_lines (Rep times body) =
    named (codes "rep") times ∷ map op_line body ++ (codes "end" ∷ []) ∷ []

abbrev pub script_lines : List Item → List (List (List ℕ))
script_lines items = (codes "vcpu" ∷ []) ∷ flat_map item_lines items

abbrev pub guest_lines : Guest → List (List (List ℕ))
guest_lines guest =
    named (codes "dirtyguest") guest.version ∷ settings_lines guest.settings
    ++ map slot_line guest.slots ++ flat_map script_lines guest.scripts

abbrev pub guest_text : Guest → List ℕ
guest_text guest = lines_text (guest_lines guest)
