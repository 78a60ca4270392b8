use Rattle.std.proofs.Common.{◌≡◌, ◌++◌, take, length, arith}
use Rattle.std.proofs.lemmas.Grind.{common_steps}
use Rattle.dr_io.proofs.Taking.{take_more, all_taken, too_many, cut_short, no_room, piece_more}
use Rattle.dr_io.proofs.reading.read_all.Goals as goal

pub returns-then-len-limit : goal.returns-then-len-limit
returns-then-len-limit g c =
    let added : c.append.new.self ≡ c.loop-turn.all ++ take c.in-Bytes.n c.read.new.buf = grind (arith, common_steps) in
    let t = take_more _ _ _ _ _ _ _ _ _ _ c.loop-turn.invariant.0 c.read.ensures c.in-Bytes.is in
    let size : length c.read.new.buf ≡ 4096 = grind (arith, common_steps) in
    let few = piece_more c.args.limit c.in-Bytes.n c.loop-turn.all c.read.new.buf c.loop-turn.invariant.2 (c.read.ensures.some c.in-Bytes.n c.in-Bytes.is).1 size in
    too_many _ _ _ _ _ c.append.new.self (rw added t) (grind (arith, common_steps)) (rw added few)

pub loop-turn-preserved : goal.loop-turn-preserved
loop-turn-preserved g c =
    let added : c.append.new.self ≡ c.loop-turn.all ++ take c.in-Bytes.n c.read.new.buf = grind (arith, common_steps) in
    let t = take_more _ _ _ _ _ _ _ _ _ _ c.loop-turn.invariant.0 c.read.ensures c.in-Bytes.is in
    (rw added t, grind (arith, common_steps), grind (arith, common_steps), grind (arith, common_steps))

pub returns-in-End-read : goal.returns-in-End-read
returns-in-End-read g c = all_taken _ _ _ _ _ _ _ _ _ _ c.loop-turn.invariant.0 c.read-2.ensures c.in-End-read.is c.loop-turn.invariant.2

pub returns-in-Bytes-read : goal.returns-in-Bytes-read
returns-in-Bytes-read g c =
    let t = take_more _ _ _ _ _ _ _ _ _ _ c.loop-turn.invariant.0 c.read-2.ensures c.in-Bytes-read.is in
    let size : length c.read-2.new.buf ≡ 4096 = grind (arith, common_steps) in
    let few = piece_more c.args.limit c.in-Bytes-read.field-0 c.loop-turn.all c.read-2.new.buf c.loop-turn.invariant.2 (c.read-2.ensures.some c.in-Bytes-read.field-0 c.in-Bytes-read.is).1 size in
    too_many _ _ _ _ _ _ t (grind (arith, common_steps)) few

pub returns-in-Failed : goal.returns-in-Failed
returns-in-Failed g c = cut_short _ _ _ _ _ _ _ _ _ _ c.loop-turn.invariant.0 c.read.ensures c.in-Failed.is c.loop-turn.invariant.2

pub returns-in-Failed-read : goal.returns-in-Failed-read
returns-in-Failed-read g c = cut_short _ _ _ _ _ _ _ _ _ _ c.loop-turn.invariant.0 c.read-2.ensures c.in-Failed-read.is c.loop-turn.invariant.2

pub returns-then-is_err : goal.returns-then-is_err
returns-then-is_err g c =
    let size : length c.read.new.buf ≡ 4096 = grind (arith, common_steps) in
    no_room _ _ _ _ _ _ (take_more _ _ _ _ _ _ _ _ _ _ c.loop-turn.invariant.0 c.read.ensures c.in-Bytes.is)
    (piece_more c.args.limit c.in-Bytes.n c.loop-turn.all c.read.new.buf c.loop-turn.invariant.2 (c.read.ensures.some c.in-Bytes.n c.in-Bytes.is).1 size)
