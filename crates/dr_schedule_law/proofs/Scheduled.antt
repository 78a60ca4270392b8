-- Events that are blocks of the schedule, and what turns leave of that.
use Rattle.std.proofs.Common.{◌≡◌, ℕ, Bool, true, false, List, [], ◌∷◌, ◌++◌, None, is_some, refl, ap, sym, subst, ◌∙◌, inl, inr}
use Rattle.std.specs.Prelude.{◌⊎◌, Option, Some}
use Rattle.dr_types.specs.declared.guest.Guest.{Guest}
use Rattle.dr_types.specs.declared.guest.Op.{Op}
use Rattle.dr_types.specs.Scripts.{operation}
use Rattle.dr_history.specs.declared.event.Event.{Event}
use Rattle.dr_history.specs.declared.event.Event.TheVariants.{Flushed}
use Rattle.dr_history.specs.Execution.{ops, is_halt}
use Rattle.dr_history.specs.Legality.{IsLegalSoFar}
use Rattle.dr_history.specs.Vcpus.{is_full}
use Rattle.dr_turns.specs.declared.answers.Advance.TheVariants as advance
use Rattle.dr_turns.specs.Due.{advanced}
use Rattle.dr_turns.specs.Turns.{after_op, after_exit}
use Rattle.dr_schedule_law.specs.Reaps.{Extends, reaped}
use Rattle.dr_schedule_law.specs.Schedule.{Call, Point, point, exited, call_after_op, appends, is_reap, reaps_after_full, next_block, blocks_from, Follows, CutAtTurn, IsInReap, IsScheduled, BeginsSchedule}
use Rattle.dr_schedule_law.specs.Schedule.Call.{rest, reap, leave}
use Rattle.dr_schedule_law.proofs.Blocks.{block_of_advance, block_of_full, block_of_op, block_of_halt, block_of_room, block_of_leave, block_of_reap, block_of_kicked, block_of_unreset, block_of_flush}
use Rattle.dr_schedule_law.proofs.Exiting.{exited_inside, inside_after_op}
use Rattle.dr_schedule_law.proofs.Advances.{advance_none}
use Rattle.dr_schedule_law.proofs.Telling.{not_out}

-- no block came
pub follows_still : (guest : Guest) (past : List Event) → Follows guest past past
follows_still guest past = record { times = []; blocks = refl }

blocks_append : (guest : Guest) (from : Point) (later earlier : List ℕ)
    → blocks_from guest from (later ++ earlier) ≡ blocks_from guest (blocks_from guest from earlier) later
blocks_append guest from [] earlier = refl
blocks_append guest from (now ∷ later) earlier = ap (next_block guest now) (blocks_append guest from later earlier)

-- blocks after those that came
blocks_after : (guest : Guest) (first past : List Event) (later : List ℕ) (it : Follows guest first past)
    → blocks_from guest (point rest first) (later ++ it.times) ≡ blocks_from guest (point rest past) later
blocks_after guest first past later it =
    blocks_append guest (point rest first) later it.times
    ∙ ap (λ (p : Point). blocks_from guest p later) it.blocks

-- blocks came, and then some more
pub follows_then : (guest : Guest) (first mid last : List Event) → Follows guest first mid
    → Follows guest mid last → Follows guest first last
follows_then guest first mid last before after = record {
  times = after.times ++ before.times;
  blocks = blocks_after guest first mid after.times before ∙ after.blocks;
}

-- one block, that calls for nothing
one_block : (guest : Guest) (now : ℕ) (past new : List Event)
    → next_block guest now (point rest past) ≡ point rest new → Follows guest past new
one_block guest now past new is = record { times = now ∷ []; blocks = is }

-- one that calls for something, and that
two_blocks : (guest : Guest) (now : ℕ) (call : Call) (past mid new : List Event)
    → next_block guest now (point rest past) ≡ point call mid
    → next_block guest now (point call mid) ≡ point rest new → Follows guest past new
two_blocks guest now call past mid new is then =
    record { times = now ∷ now ∷ []; blocks = ap (next_block guest now) is ∙ then }

-- the advance, where it appends events
pub advance_follows : (guest : Guest) (now : ℕ) (past : List Event)
    → appends (advanced guest now past).0 ≡ true → Follows guest past (advanced guest now past).1
advance_follows guest now past is = one_block guest now past (advanced guest now past).1 (block_of_advance guest now past is)

advance_case : (b : Bool) (guest : Guest) (past new : List Event) → (b ≡ true → Follows guest past new)
    → (b ≡ false → new ≡ past) → Follows guest past new
advance_case true guest past new f g = f refl
advance_case false guest past new f g = subst (Follows guest past) (sym (g refl)) (follows_still guest past)

-- the advance, whatever it answers
pub any_advance_follows : (guest : Guest) (now : ℕ) (past : List Event)
    → Follows guest past (advanced guest now past).1
any_advance_follows guest now past =
    advance_case (appends (advanced guest now past).0) guest past (advanced guest now past).1
    (advance_follows guest now past) (advance_none guest now past)

-- NotPaced, with room in the ring: an op that is no halt
pub op_follows : (guest : Guest) (now : ℕ) (past : List Event) (v done : ℕ)
    → (advanced guest now past).0 ≡ advance.NotPaced v done → is_full guest v past ≡ false
    → is_halt (operation guest v (ops v past)) ≡ false → Follows guest past (after_op guest v past)
op_follows guest now past v done is room goes =
    one_block guest now past (after_op guest v past) (block_of_op guest now past v done is room goes)

halt_some : (o : Option Op) → is_halt o ≡ true → is_some o ≡ true
halt_some None h = h
halt_some (Some x) h = refl

-- .. a halt, and then the exit
pub halt_follows : (guest : Guest) (now : ℕ) (past : List Event) (v done : ℕ)
    → (advanced guest now past).0 ≡ advance.NotPaced v done → is_full guest v past ≡ false
    → is_halt (operation guest v (ops v past)) ≡ true
    → Follows guest past (after_exit guest v (after_op guest v past))
halt_follows guest now past v done is room halts =
    two_blocks guest now (leave v) past (after_op guest v past) (after_exit guest v (after_op guest v past))
    (block_of_halt guest now past v done is room halts)
    (block_of_leave guest now v (after_op guest v past)
    ∙ ap (point rest)
    (exited_inside guest v (after_op guest v past)
    (inside_after_op guest past v (halt_some (operation guest v (ops v past)) halts))))

-- NotPaced, with a full ring: the exit, where the vCPU is in the guest, and then the reap
pub full_follows : (guest : Guest) (now : ℕ) (past : List Event) (v done : ℕ)
    → (advanced guest now past).0 ≡ advance.NotPaced v done → is_full guest v past ≡ true
    → Follows guest past (reaped guest (reaps_after_full guest v) (exited guest v past))
full_follows guest now past v done is full =
    two_blocks guest now (reap v) past (exited guest v past)
    (reaped guest (reaps_after_full guest v) (exited guest v past))
    (block_of_full guest now past v done is full) (block_of_reap guest now v (exited guest v past))

-- NotOut: the exit
pub exit_follows : (guest : Guest) (now : ℕ) (past : List Event) (v : ℕ) → IsLegalSoFar guest past
    → (advanced guest now past).0 ≡ advance.NotOut v → Follows guest past (after_exit guest v past)
exit_follows guest now past v legal is =
    one_block guest now past (after_exit guest v past)
    (block_of_kicked guest now past v is ∙ ap (point rest)
    (exited_inside guest v past (not_out guest now past v legal is).inside))

-- NotReset: the reap of all rings
pub reap_follows : (guest : Guest) (now : ℕ) (past : List Event) (v k : ℕ)
    → (advanced guest now past).0 ≡ advance.NotReset v k → Follows guest past (reaped guest None past)
reap_follows guest now past v k is =
    one_block guest now past (reaped guest None past) (block_of_unreset guest now past v k is)

-- NotFlushed: the flush
pub flush_follows : (guest : Guest) (now : ℕ) (past : List Event)
    → (advanced guest now past).0 ≡ advance.NotFlushed → Follows guest past (Flushed ∷ past)
flush_follows guest now past is = one_block guest now past (Flushed ∷ past) (block_of_flush guest now past is)

-- from the first event on, such events are scheduled
pub following_is_scheduled : (guest : Guest) (past : List Event) → Follows guest [] past → IsScheduled guest past
following_is_scheduled guest past it = record { times = it.times; blocks = ap (λ (p : Point). p.past) it.blocks }

-- whole blocks are cut at the end of a turn
pub follows_cut : (guest : Guest) (first past : List Event) → Follows guest first past → CutAtTurn guest first past
follows_cut guest first past it =
    record { times = it.times; at = point rest past; blocks = it.blocks; last = inl refl }

-- so are scheduled events, whatever the last block calls for
pub scheduled_cut : (guest : Guest) (past : List Event) → IsScheduled guest past → CutAtTurn guest [] past
scheduled_cut guest past it = record {
  times = it.times;
  at = blocks_from guest (point rest []) it.times;
  blocks = refl;
  last = inl (sym it.blocks);
}

-- blocks came, and then some that are cut
pub cut_after : (guest : Guest) (first mid last : List Event) → Follows guest first mid
    → CutAtTurn guest mid last → CutAtTurn guest first last
cut_after guest first mid last before cut = record {
  times = cut.times ++ before.times;
  at = cut.at;
  blocks = blocks_after guest first mid cut.times before ∙ cut.blocks;
  last = cut.last;
}

-- one block, whatever it calls for
block_cut : (guest : Guest) (now : ℕ) (past : List Event) (call : Call) (new : List Event)
    → next_block guest now (point rest past) ≡ point call new → CutAtTurn guest past new
block_cut guest now past call new is =
    record { times = now ∷ []; at = point call new; blocks = is; last = inl refl }

-- the op alone, though it may call for an exit
pub op_cut : (guest : Guest) (now : ℕ) (past : List Event) (v done : ℕ)
    → (advanced guest now past).0 ≡ advance.NotPaced v done → is_full guest v past ≡ false
    → CutAtTurn guest past (after_op guest v past)
op_cut guest now past v done is room =
    block_cut guest now past (call_after_op v (operation guest v (ops v past)))
    (after_op guest v past) (block_of_room guest now past v done is room)

-- the exit with a full ring alone, or with some first events of the reap that it calls for
pub full_cut : (guest : Guest) (now : ℕ) (past new : List Event) (v done : ℕ)
    → (advanced guest now past).0 ≡ advance.NotPaced v done → is_full guest v past ≡ true
    → Extends (exited guest v past) new
    → Extends new (reaped guest (reaps_after_full guest v) (exited guest v past)) → CutAtTurn guest past new
full_cut guest now past new v done is full begun within = record {
  times = now ∷ [];
  at = point (reap v) (exited guest v past);
  blocks = block_of_full guest now past v done is full;
  last = inr (record {
    now = now;
    next = refl;
    begun = begun;
    within = subst (λ (p : Point). Extends new p.past)
        (sym (block_of_reap guest now v (exited guest v past))) within;
  });
}

-- NotReset: some first events of the reap of all rings
pub reap_cut : (guest : Guest) (now : ℕ) (past new : List Event) (v k : ℕ)
    → (advanced guest now past).0 ≡ advance.NotReset v k → Extends past new
    → Extends new (reaped guest None past) → CutAtTurn guest past new
reap_cut guest now past new v k is begun within = record {
  times = [];
  at = point rest past;
  blocks = refl;
  last = inr (record {
    now = now;
    next = ap (is_reap rest) is;
    begun = begun;
    within = subst (λ (p : Point). Extends new p.past)
        (sym (block_of_unreset guest now past v k is)) within;
  });
}

cut_case : (guest : Guest) (past : List Event) (times : List ℕ) (at : Point)
    → blocks_from guest (point rest []) times ≡ at → (past ≡ at.past) ⊎ IsInReap guest at past
    → BeginsSchedule guest past
cut_case guest past times at blocks (inl same) = record {
  later = [];
  scheduled = record { times = times; blocks = ap (λ (p : Point). p.past) blocks ∙ sym same };
}
cut_case guest past times at blocks (inr it) = record {
  later = it.within.more;
  scheduled = record {
    times = it.now ∷ times;
    blocks = ap (λ (p : Point). (next_block guest it.now p).past) blocks ∙ it.within.parts;
  };
}

-- from the first event on, what is cut begins a schedule
pub cut_begins : (guest : Guest) (past : List Event) → CutAtTurn guest [] past → BeginsSchedule guest past
cut_begins guest past it = cut_case guest past it.times it.at it.blocks it.last
