use Rattle.std.proofs.Common.{◌<◌, ◌*◌, ◌∙◌, sym, ap, length, arith}
use Rattle.std.specs.Prelude.{◌==◌}
use Rattle.rtp_buffer.specs.Store.{place, slot_of}
use Rattle.rtp_buffer.specs.Watch.{on}
use Rattle.rtp_stream.specs.Payload.{octets_before, is_taken, period_outcome}
use Rattle.rtp_stream.proofs.Pieces as pieces
use Rattle.rtp_stream.proofs.Past as past
use Rattle.rtp_stream.proofs.Counted as counted
use Rattle.rtp_stream.proofs.payload.lay.Goals as goal

pub loop-n-preserved : goal.loop-n-preserved
loop-n-preserved g c =
    let soon = c.loop-n-test.true in
    let at = c.loop-n.invariant.at_is in
    let some : octets_before (c.loop-n.n * g.row.N) c.args.part (length c.args.payload.now) < length c.args.payload.now = omega (arith, at, c.if-at-payload.false) in
    let is = counted.as_before c.args.buffer.now c.loop-n.buffer c.args.tick c.args.first c.args.part (length c.args.payload.now) c.loop-n.n c.lay_period-next.result.1
    c.requires.part some c.loop-n.invariant.shift
    (pieces.nth_untouched g.row.N c.args.first c.args.part c.loop-n.n c.args.payload.now _ _ _ _ c.ranges.first.fits soon c.loop-n.invariant.laid)
    c.lay_period-next.ensures.outcome in
    record {
      at_is = c.lay_period-next.ensures.at;
      shift = c.lay_period-next.ensures.shift ∙ c.loop-n.invariant.shift;
      laid = pieces.laid_then g.row.N c.args.first c.args.part c.loop-n.n c.args.payload.now _ _ _ _ _
          (record {
            first_fits = c.ranges.first.fits;
            soon = soon;
            own = λ k l. pieces.with_wait _ _ _ _ _ (pieces.same_wait _ _ (on c.args.first c.loop-n.n) c.args.tick c.loop-n.invariant.shift) (c.lay_period-next.ensures.own k l);
            others = λ other k d. pieces.same_taken (slot_of other == slot_of (on c.args.first c.loop-n.n)) _ _ _ (place c.loop-n.buffer.store.slots other k) (ap is_taken (sym is)) (c.lay_period-next.ensures.others other k d);
          })
          c.loop-n.invariant.laid;
      before = λ period k fits l r. pieces.kept (slot_of period == slot_of (on c.args.first c.loop-n.n)) _ _ (place c.loop-n.buffer.store.slots period k) (pieces.slot_not_behind c.args.first c.loop-n.n period c.ranges.first.fits fits soon l r)
          (c.lay_period-next.ensures.others period k (pieces.not_behind c.args.first c.loop-n.n period c.ranges.first.fits fits soon l r))
          ∙ c.loop-n.invariant.before period k fits l r;
      most = omega (arith, soon);
      stands = λ deeds s. past.with_next g.row.N c.args.buffer.now.pace c.args.tick c.args.first c.args.part c.args.payload.now c.loop-n.n deeds _
          (past.same_wait _ _ (on c.args.first c.loop-n.n) _ _ _ _ (pieces.same_wait _ _ (on c.args.first c.loop-n.n) c.args.tick c.loop-n.invariant.shift)
          (c.lay_period-next.ensures.stands _ (c.loop-n.invariant.stands deeds s)));
      counts = counted.counted_then c.loop-n.n _ _ _ _ _ _ (λ m. period_outcome c.args.buffer.now c.args.tick c.args.first c.args.part (length c.args.payload.now) m)
          c.lay_period-next.result.1 c.args.first c.args.buffer.now.newest soon is
          (record {
            taken_is = λ e. (grind (arith, c.with-laid.ensures.taken e), grind (arith, c.with-laid.ensures.taken e));
            late_is = λ e. (grind (arith, c.with-laid.ensures.late e), grind (arith, c.with-laid.ensures.late e));
            doubled_is = λ e. (grind (arith, c.with-laid.ensures.doubled e), grind (arith, c.with-laid.ensures.doubled e));
          })
          c.lay_period-next.ensures.newest c.loop-n.invariant.counts;
      told = past.told_once c.loop-n.n c.args.first c.args.tick c.args.part (length c.args.payload.now) c.args.is_watched c.args.buffer.now c.lay_period-next.result.1 _ _ _ _
          c.ranges.first.fits is c.loop-n.invariant.told c.lay_period-next.ensures.told c.lay_period-next.ensures.later;
    }

pub returns-then-at-payload-clause-everywhere : goal.returns-then-at-payload-clause-everywhere
returns-then-at-payload-clause-everywhere g c = pieces.all_laid g.row.N c.args.first c.args.part c.loop-n.n c.args.payload.now _ _ _ _ (sym c.loop-n.invariant.at_is ∙ c.if-at-payload.true)
    (λ m l. ap is_taken (counted.no_outcome c.args.buffer.now c.args.tick c.args.first c.args.part (length c.args.payload.now) c.loop-n.n m l (sym c.loop-n.invariant.at_is ∙ c.if-at-payload.true)))
    c.loop-n.invariant.laid

pub returns-then-at-payload-clause-laid : goal.returns-then-at-payload-clause-laid
returns-then-at-payload-clause-laid g c period k fits near inside = pieces.within_128 _ _ _ _ near (returns-then-at-payload-clause-everywhere g c period k fits inside)

pub returns-then-at-payload-clause-stands : goal.returns-then-at-payload-clause-stands
returns-then-at-payload-clause-stands g c deeds s =
    past.all_periods g.row.N c.args.buffer.now.pace c.args.tick c.args.first c.args.part c.args.payload.now c.loop-n.n deeds _ c.loop-n.invariant.most (sym c.loop-n.invariant.at_is ∙ c.if-at-payload.true)
    (c.loop-n.invariant.stands deeds s)

pub returns-then-at-payload-clause-late : goal.returns-then-at-payload-clause-late
returns-then-at-payload-clause-late g c = (counted.counted_all c.loop-n.n _ _ _ (λ m. period_outcome c.args.buffer.now c.args.tick c.args.first c.args.part (length c.args.payload.now) m) c.args.first c.args.buffer.now.newest
    c.loop-n.invariant.most (λ m l. counted.no_outcome c.args.buffer.now c.args.tick c.args.first c.args.part (length c.args.payload.now) c.loop-n.n m l (sym c.loop-n.invariant.at_is ∙ c.if-at-payload.true)) c.loop-n.invariant.counts).0

pub returns-then-at-payload-clause-doubled : goal.returns-then-at-payload-clause-doubled
returns-then-at-payload-clause-doubled g c = (counted.counted_all c.loop-n.n _ _ _ (λ m. period_outcome c.args.buffer.now c.args.tick c.args.first c.args.part (length c.args.payload.now) m) c.args.first c.args.buffer.now.newest
    c.loop-n.invariant.most (λ m l. counted.no_outcome c.args.buffer.now c.args.tick c.args.first c.args.part (length c.args.payload.now) c.loop-n.n m l (sym c.loop-n.invariant.at_is ∙ c.if-at-payload.true)) c.loop-n.invariant.counts).1

pub returns-then-at-payload-clause-newest : goal.returns-then-at-payload-clause-newest
returns-then-at-payload-clause-newest g c = (counted.counted_all c.loop-n.n _ _ _ (λ m. period_outcome c.args.buffer.now c.args.tick c.args.first c.args.part (length c.args.payload.now) m) c.args.first c.args.buffer.now.newest
    c.loop-n.invariant.most (λ m l. counted.no_outcome c.args.buffer.now c.args.tick c.args.first c.args.part (length c.args.payload.now) c.loop-n.n m l (sym c.loop-n.invariant.at_is ∙ c.if-at-payload.true)) c.loop-n.invariant.counts).2

pub returns-then-at-payload-clause-told : goal.returns-then-at-payload-clause-told
returns-then-at-payload-clause-told g c = past.all_told c.loop-n.n c.args.first c.args.tick c.args.part (length c.args.payload.now) c.args.is_watched c.args.buffer.now _ _
    (λ m l. counted.no_outcome c.args.buffer.now c.args.tick c.args.first c.args.part (length c.args.payload.now) c.loop-n.n m l (sym c.loop-n.invariant.at_is ∙ c.if-at-payload.true)) c.loop-n.invariant.told

pub returns-clause-everywhere : goal.returns-clause-everywhere
returns-clause-everywhere g c = pieces.all_laid g.row.N c.args.first c.args.part c.loop-n.n c.args.payload.now _ _ _ _ (pieces.all_in_51 c.loop-n.n g.row.N c.args.part (length c.args.payload.now) c.requires.part c.requires.size c.loop-n.invariant.most c.loop-n-test.false)
    (λ m l. ap is_taken (counted.no_outcome c.args.buffer.now c.args.tick c.args.first c.args.part (length c.args.payload.now) c.loop-n.n m l (pieces.all_in_51 c.loop-n.n g.row.N c.args.part (length c.args.payload.now) c.requires.part c.requires.size c.loop-n.invariant.most c.loop-n-test.false)))
    c.loop-n.invariant.laid

pub returns-clause-laid : goal.returns-clause-laid
returns-clause-laid g c period k fits near inside = pieces.within_128 _ _ _ _ near (returns-clause-everywhere g c period k fits inside)

pub returns-clause-stands : goal.returns-clause-stands
returns-clause-stands g c deeds s =
    past.all_periods g.row.N c.args.buffer.now.pace c.args.tick c.args.first c.args.part c.args.payload.now c.loop-n.n deeds _ c.loop-n.invariant.most (pieces.all_in_51 c.loop-n.n g.row.N c.args.part (length c.args.payload.now) c.requires.part c.requires.size c.loop-n.invariant.most c.loop-n-test.false)
    (c.loop-n.invariant.stands deeds s)

pub returns-clause-late : goal.returns-clause-late
returns-clause-late g c = (counted.counted_all c.loop-n.n _ _ _ (λ m. period_outcome c.args.buffer.now c.args.tick c.args.first c.args.part (length c.args.payload.now) m) c.args.first c.args.buffer.now.newest
    c.loop-n.invariant.most (λ m l. counted.no_outcome c.args.buffer.now c.args.tick c.args.first c.args.part (length c.args.payload.now) c.loop-n.n m l (pieces.all_in_51 c.loop-n.n g.row.N c.args.part (length c.args.payload.now) c.requires.part c.requires.size c.loop-n.invariant.most c.loop-n-test.false)) c.loop-n.invariant.counts).0

pub returns-clause-doubled : goal.returns-clause-doubled
returns-clause-doubled g c = (counted.counted_all c.loop-n.n _ _ _ (λ m. period_outcome c.args.buffer.now c.args.tick c.args.first c.args.part (length c.args.payload.now) m) c.args.first c.args.buffer.now.newest
    c.loop-n.invariant.most (λ m l. counted.no_outcome c.args.buffer.now c.args.tick c.args.first c.args.part (length c.args.payload.now) c.loop-n.n m l (pieces.all_in_51 c.loop-n.n g.row.N c.args.part (length c.args.payload.now) c.requires.part c.requires.size c.loop-n.invariant.most c.loop-n-test.false)) c.loop-n.invariant.counts).1

pub returns-clause-newest : goal.returns-clause-newest
returns-clause-newest g c = (counted.counted_all c.loop-n.n _ _ _ (λ m. period_outcome c.args.buffer.now c.args.tick c.args.first c.args.part (length c.args.payload.now) m) c.args.first c.args.buffer.now.newest
    c.loop-n.invariant.most (λ m l. counted.no_outcome c.args.buffer.now c.args.tick c.args.first c.args.part (length c.args.payload.now) c.loop-n.n m l (pieces.all_in_51 c.loop-n.n g.row.N c.args.part (length c.args.payload.now) c.requires.part c.requires.size c.loop-n.invariant.most c.loop-n-test.false)) c.loop-n.invariant.counts).2

pub returns-clause-told : goal.returns-clause-told
returns-clause-told g c = past.all_told c.loop-n.n c.args.first c.args.tick c.args.part (length c.args.payload.now) c.args.is_watched c.args.buffer.now _ _
    (λ m l. counted.no_outcome c.args.buffer.now c.args.tick c.args.first c.args.part (length c.args.payload.now) c.loop-n.n m l (pieces.all_in_51 c.loop-n.n g.row.N c.args.part (length c.args.payload.now) c.requires.part c.requires.size c.loop-n.invariant.most c.loop-n-test.false)) c.loop-n.invariant.told
