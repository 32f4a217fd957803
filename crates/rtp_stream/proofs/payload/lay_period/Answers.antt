use Rattle.std.proofs.Common.{◌*◌, ap, ◌∙◌, sym, length, arith}
use Rattle.std.specs.Prelude.{◌==◌}
use Rattle.rtp_buffer.specs.Store.{slot_of}
use Rattle.rtp_buffer.specs.Watch.{on}
use Rattle.rtp_stream.specs.Payload.{octets_before}
use Rattle.rtp_stream.proofs.Pieces as pieces
use Rattle.rtp_stream.proofs.Past as past
use Rattle.rtp_stream.proofs.Counted as counted
use Rattle.rtp_stream.proofs.payload.lay_period.Goals as goal

pub returns-clause-at : goal.returns-clause-at
returns-clause-at g c =
    pieces.taken_then (c.args.n * g.row.N) g.row.N c.args.part c.args.at c.start_in-start.result c.min-size.result (length c.args.payload.now) c.requires.part c.requires.at
    (pieces.starts c.args.n g.row.N c.args.part c.start_in-start.result c.start_in-start.ensures) c.min-size.ensures
    ∙ ap (λ m. octets_before m c.args.part (length c.args.payload.now)) (sym (pieces.one_more c.args.n g.row.N))

pub returns-clause-own : goal.returns-clause-own
returns-clause-own g c =
    pieces.own_piece c.put-outcome.result _ c.args.payload.now (c.args.n * g.row.N) g.row.N c.args.part c.args.at c.start_in-start.result c.min-size.result _ _
    c.requires.part c.requires.at (pieces.starts c.args.n g.row.N c.args.part c.start_in-start.result c.start_in-start.ensures) c.min-size.ensures
    (record {
      taken_is = λ e. ((c.put-outcome.ensures.taken e).0, c.put-outcome.ensures.own e);
      late_is = λ e. ((c.put-outcome.ensures.late e).0, λ k. grind (arith, (c.put-outcome.ensures.stays e).0));
      doubled_is = λ e. (λ k. grind (arith, (c.put-outcome.ensures.doubled e).1), λ k l r. (c.put-outcome.ensures.doubled e).0 k l r);
    })

pub returns-clause-stands : goal.returns-clause-stands
returns-clause-stands g c deeds s =
    past.stands_period c.put-outcome.result _ _ c.start_in-start.result c.args.part c.args.n g.row.N c.args.at c.min-size.result c.args.payload.now deeds _ _
    c.start_in-start.ensures c.requires.at (returns-clause-at g c)
    (record {
      some = grind (arith, pieces.piece_length c.args.payload.now c.args.at c.min-size.result (pieces.piece_inside (c.args.n * g.row.N) g.row.N c.args.part c.args.at c.start_in-start.result c.min-size.result (length c.args.payload.now) c.requires.part c.requires.at (pieces.starts c.args.n g.row.N c.args.part c.start_in-start.result c.start_in-start.ensures) c.min-size.ensures), c.requires.left);
      taken_is = λ e. ((c.put-outcome.ensures.taken e).0, c.put-outcome.ensures.stands deeds s e);
      late_is = λ e. ((c.put-outcome.ensures.late e).0, grind (arith, (c.put-outcome.ensures.stays e).0));
      doubled_is = λ e. (grind (arith, (c.put-outcome.ensures.doubled e).1), (c.put-outcome.ensures.doubled e).0);
    }) s

pub returns-clause-later : goal.returns-clause-later
returns-clause-later g c d =
    past.later_is c.put-outcome.result c.args.n _ c.args.tick c.args.is_watched c.is_told_by-is_watched.result _ _ d c.is_told_by-is_watched.ensures
    c.put-outcome.ensures.seen c.put-outcome.ensures.unwatched (λ e. grind (arith, (c.put-outcome.ensures.doubled e).1))

pub returns-clause-outcome : goal.returns-clause-outcome
returns-clause-outcome g c =
    counted.same_outcome c.args.buffer.now _ _ _ _ _ _ _ c.start_in-start.ensures
    (counted.piece_counts c.args.payload.now g.row.N c.args.part c.args.n c.args.at c.min-size.result c.requires.at (returns-clause-at g c)
    (pieces.piece_inside (c.args.n * g.row.N) g.row.N c.args.part c.args.at c.start_in-start.result c.min-size.result (length c.args.payload.now) c.requires.part c.requires.at (pieces.starts c.args.n g.row.N c.args.part c.start_in-start.result c.start_in-start.ensures) c.min-size.ensures))
    c.put-outcome.ensures.outcome

pub returns-clause-others : goal.returns-clause-others
returns-clause-others g c other k differs =
    counted.others_then c.put-outcome.result (slot_of other == slot_of (on c.args.first c.args.n)) _ _
    (λ same taken. c.put-outcome.ensures.same_slot taken other k (counted.equal _ _ same) differs)
    (λ same. c.put-outcome.ensures.other_slots other k (counted.different _ _ same))
    (λ e. grind (arith, (c.put-outcome.ensures.stays e).0))
    (λ e. grind (arith, (c.put-outcome.ensures.doubled e).1))
