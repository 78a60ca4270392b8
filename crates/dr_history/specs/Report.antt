-- The report of a history, as a text.
use Rattle.std.specs.Prelude.{ℕ, Bool, false, ◌+◌, ◌==◌, nat_le, List, [], ◌∷◌, ◌++◌, length, codes}
use Rattle.std.specs.Prelude.{if◌then◌else◌}
use Rattle.std.specs.List.{flat_map, list_any}
use Rattle.std.specs.Fmt.{decimal}
use Rattle.dr_history.specs.declared.event.Event.{Event}
use Rattle.dr_history.specs.declared.event.Event.TheVariants.{Synced, Copied, Throttled, Exited}
use Rattle.dr_types.specs.declared.guest.Guest.{Guest}
use Rattle.dr_types.specs.declared.guest.Why.TheVariants as reason
use Rattle.dr_types.specs.Pages.{page_count, soft_limit}
use Rattle.dr_types.specs.Scripts.{vcpu_count}
use Rattle.dr_types.specs.Lines.{line_text}
use Rattle.dr_history.specs.Lookback.{count, since, below}
use Rattle.dr_history.specs.Kinds.{is_op_of, is_pushed_of, is_switched}
use Rattle.dr_history.specs.Throttles.{begins_span, current_rate}

-- a Copied of the round
abbrev pub copies_in_round : ℕ → Event → Bool
copies_in_round r (Copied s page) = s == r
copies_in_round r e = false

-- a Synced of a later round
abbrev pub answers_after : ℕ → Event → Bool
answers_after r (Synced s at pages) = nat_le (r + 1) s
answers_after r e = false

-- an Exited of the vCPU with full
abbrev pub exits_full : ℕ → Event → Bool
exits_full v (Exited w reason.Full) = w == v
exits_full v e = false

-- an Exited of the vCPU with kicked
abbrev pub exits_kicked : ℕ → Event → Bool
exits_kicked v (Exited w reason.Kicked) = w == v
exits_kicked v e = false

-- the events before the answers of later rounds
abbrev pub until_after : ℕ → List Event → List Event
until_after r [] = []
until_after r (e ∷ earlier) =
    if list_any (answers_after r) (e ∷ earlier) then until_after r earlier else e ∷ earlier

-- the vCPU's last throttle, or 0 where it has none
abbrev pub last_throttled : ℕ → List Event → ℕ
last_throttled v [] = 0
last_throttled v (Throttled w us ∷ earlier) = if w == v then us else last_throttled v earlier
last_throttled v (e ∷ earlier) = last_throttled v earlier

-- the first line
unfoldable pub guest_line : Guest → List ℕ
guest_line guest =
    line_text (codes "guest" ∷ codes "pages" ∷ decimal (page_count guest)
    ∷ codes "vcpus" ∷ decimal (vcpu_count guest) ∷ codes "ring" ∷ decimal guest.settings.ring
    ∷ codes "soft" ∷ decimal (soft_limit guest) ∷ [])

-- an answer's first line: its round, how many pages it has, how many were copied, and its time
unfoldable pub round_line : ℕ → ℕ → ℕ → ℕ → List ℕ
round_line r dirty copied at =
    line_text (codes "round" ∷ decimal r ∷ codes "dirty" ∷ decimal dirty
    ∷ codes "copied" ∷ decimal copied ∷ codes "at" ∷ decimal at ∷ [])

-- a vCPU's line of an answer, after two spaces
unfoldable pub share_line : ℕ → ℕ → ℕ → ℕ → List ℕ
share_line v entries rate us =
    32 ∷ 32 ∷ line_text (codes "vcpu" ∷ decimal v ∷ codes "entries" ∷ decimal entries
    ∷ codes "rate" ∷ decimal rate ∷ codes "throttle" ∷ decimal us ∷ [])

-- a vCPU's line of the whole run
unfoldable pub vcpu_line : ℕ → ℕ → ℕ → ℕ → List ℕ
vcpu_line v ops full kicked =
    line_text (codes "vcpu" ∷ decimal v ∷ codes "ops" ∷ decimal ops
    ∷ codes "full" ∷ decimal full ∷ codes "kicked" ∷ decimal kicked ∷ [])

-- a vCPU's line of an answer, where past is the whole history and earlier the events before the
-- answer
abbrev pub share_text : List Event → ℕ → ℕ → List Event → ℕ → List ℕ
share_text past r at earlier v =
    share_line v (count (is_pushed_of v) (since begins_span earlier)) (current_rate v at earlier)
    (last_throttled v (until_after r past))

-- the lines of the answers in these events, in their order, where past is the whole history
abbrev pub rounds_text : Guest → List Event → List Event → List ℕ
rounds_text guest past [] = []
rounds_text guest past (Synced r at pages ∷ earlier) =
    rounds_text guest past earlier
    ++ round_line r (length pages) (count (copies_in_round r) past) at
    ++ flat_map (share_text past r at earlier) (below (vcpu_count guest))
rounds_text guest past (e ∷ earlier) = rounds_text guest past earlier

-- a vCPU's line of the whole run, counted
abbrev pub vcpu_text : List Event → ℕ → List ℕ
vcpu_text past v =
    vcpu_line v (count (is_op_of v) past) (count (exits_full v) past) (count (exits_kicked v) past)

-- the last line
abbrev pub ending_line : List Event → List ℕ
ending_line past =
    if list_any is_switched past then line_text (codes "switched" ∷ [])
    else line_text (codes "unfinished" ∷ [])

-- the whole report
abbrev pub report_of : Guest → List Event → List ℕ
report_of guest past =
    guest_line guest ++ rounds_text guest past past
    ++ flat_map (vcpu_text past) (below (vcpu_count guest)) ++ ending_line past
