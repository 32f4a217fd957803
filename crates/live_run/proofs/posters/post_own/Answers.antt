use Rattle.std.proofs.Common.{◌+◌, sym, ◌∙◌, arith}
use Rattle.farm_live.specs.Live.{view_of}
use Rattle.std.specs.Prelude.{slice_index_or}
use Rattle.live_run.specs.Posts.{IsDrawn}
use Rattle.live_run.proofs.Behind.{not_own, drawn_still, few_made, draws_at, drawn_at, own_posted_ok, always_ok}
use Rattle.live_run.proofs.posters.post_own.Goals as goal

pub returns-then-k-shared-clause-posted : goal.returns-then-k-shared-clause-posted
returns-then-k-shared-clause-posted g c =
    not_own c.args.shared.now.drill.seed c.args.shared.now.drill.callers c.args.k c.args.period c.args.caller.now
    (λ e. c.if-k-shared.true (e ∙ sym c.number.ensures)) c.requires.knows

pub returns-then-k-shared-clause-drawn : goal.returns-then-k-shared-clause-drawn
returns-then-k-shared-clause-drawn g c =
    drawn_still c.args.shared.now.drill.seed c.args.shared.now.drill.callers c.args.caller.now.number c.args.k c.args.period
    (c.args.period + 1) c.args.draws.now
    (λ e. c.if-k-shared.true (e ∙ sym c.number.ensures)) c.requires.drawn

pub post_period-requires-clause-posts : goal.post_period-requires-clause-posts
post_period-requires-clause-posts g c = λ s.
    let own = c.if-k-shared.false ∙ c.number.ensures in
    omega (
      arith,
      c.requires.period,
      few_made c.args.shared.now.drill.seed c.args.shared.now.drill.callers c.args.caller.now.number c.args.k c.args.period
          (view_of (slice_index_or c.args.caller.now.seats.items c.args.k s)) own (c.requires.knows s),
    )

pub returns-clause-posted : goal.returns-clause-posted
returns-clause-posted g c =
    let seed = c.args.shared.now.drill.seed in
    let k = c.args.k in
    let n = c.args.period in
    let caller = c.args.caller.now in
    let own = c.if-k-shared.false ∙ c.number.ensures in
    let first = draws_at seed c.args.shared.now.drill.callers caller.number k n c.args.draws.now own c.requires.drawn in
    own_posted_ok c.post_period.result seed c.args.shared.now.drill.callers k n c.uplink-up.result c.pcm-pcm.result caller c.post_period.new.caller own
    (c.uplink-up.ensures.octets seed (k + 1) first)
    (c.pcm-pcm.ensures.octets seed (k + 1) (c.uplink-up.ensures.now seed (k + 1) first)) c.requires.knows c.post_period.ensures.posted

pub returns-clause-drawn : goal.returns-clause-drawn
returns-clause-drawn g c =
    let seed = c.args.shared.now.drill.seed in
    let callers = c.args.shared.now.drill.callers in
    let k = c.args.k in
    let n = c.args.period in
    let caller = c.args.caller.now in
    let own = c.if-k-shared.false ∙ c.number.ensures in
    let first = draws_at seed callers caller.number k n c.args.draws.now own c.requires.drawn in
    always_ok (IsDrawn seed callers caller.number k (n + 1) c.pcm-pcm.new.generator) c.post_period.result
    (drawn_at seed callers caller.number k (n + 1) c.pcm-pcm.new.generator own
    (c.pcm-pcm.ensures.now seed (k + 1) (c.uplink-up.ensures.now seed (k + 1) first)))
