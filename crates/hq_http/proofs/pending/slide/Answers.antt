use Rattle.std.proofs.Common.{arith, ◌+◌, ◌<◌, length}
use Rattle.hq_http.proofs.Rooms.{moved_front, moved_back, slid}
use Rattle.hq_http.proofs.pending.slide.Goals as goal

pub moved-preserved : goal.moved-preserved
moved-preserved c =
    let lt : c.args.start + c.moved.i < length c.args.room.now = omega (arith, c.requires.1) in
    record {
      within = omega arith;
      front = moved_front c.moved.room c.args.room.now c.args.start c.moved.i lt c.moved.auto.room (omega (arith, c.moved.auto.room)) c.moved.invariant.front c.moved.invariant.back;
      back = moved_back c.moved.room c.args.room.now c.moved.i _ c.moved.invariant.back;
    }

pub returns-clause-front : goal.returns-clause-front
returns-clause-front c = slid c.moved.room c.args.room.now c.args.start c.args.end c.moved.i c.requires.0 c.moved.invariant.within c.moved-test.false c.moved.invariant.front
