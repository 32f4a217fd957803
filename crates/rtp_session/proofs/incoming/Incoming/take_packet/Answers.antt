use Rattle.std.proofs.Common.{ℕ, sym, ap, refl, ◌∙◌}
use Rattle.std.specs.Prelude.{Bool, is_some}
use Rattle.rtp_buffer.specs.Watch.{on}
use Rattle.rtp_stream.specs.declared.stream.Arrival.TheVariants.{At, NewSource, Jump}
use Rattle.rtp_session.specs.declared.incoming.Incoming.{Incoming}
use Rattle.rtp_session.specs.Datagram.{outcome_by, placed_counts, sourced_counts}
use Rattle.rtp_session.proofs.Taken.{laid_by, kept_if, kept_refused, kept_laid}
use Rattle.rtp_session.proofs.incoming.Incoming.take_packet.Goals as goal

-- a jump is counted
abbrev jumped : {N : ℕ} → Incoming N → Incoming N
jumped incoming = record incoming { counts = record incoming.counts { jumps = on incoming.counts.jumps 1 } }

pub returns-in-At-clause-reception : goal.returns-in-At-clause-reception
returns-in-At-clause-reception g c =
    ap (λ (x : Incoming g.row.N). x.stream.reception) c.lay_at.ensures.others
    ∙ ap (λ (x : Incoming g.row.N). x.stream.reception) c.note_place.ensures.others ∙ c.arrive.ensures.reception

pub returns-in-At-clause-lays : goal.returns-in-At-clause-lays
returns-in-At-clause-lays g c taken =
    laid_by c.args.self.now c.arrive.new.self c.note_place.new.self c.lay_at.new.self c.args.header.now c.args.payload.now c.args.tick c.args.behind
    c.arrive.result (At c.in-At.place) c.in-At.is c.arrive.ensures.arrival c.arrive.ensures.arrives
    (ap (λ (x : Incoming g.row.N). x.stream) c.note_place.ensures.others)
    (ap (λ (x : Incoming g.row.N). x.is_framed) c.note_place.ensures.others ∙ ap (λ (x : Incoming g.row.N). x.is_framed) c.arrive.ensures.others)
    (c.note_place.ensures.counts
    ∙ ap (λ (x : Incoming g.row.N). placed_counts x.is_framed c.in-At.place.sample c.arrive.new.self.stream.track.offset
    c.args.self.now.stream.buffer.pace.shift c.arrive.new.self.stream.buffer.pace.shift x.counts) c.arrive.ensures.others
    ∙ ap (λ (n : ℕ). placed_counts c.args.self.now.is_framed c.in-At.place.sample n c.args.self.now.stream.buffer.pace.shift
    c.arrive.new.self.stream.buffer.pace.shift c.args.self.now.counts) c.arrive.ensures.offset)
    c.lay_at.ensures.laid c.lay_at.ensures.counts

pub returns-in-NewSource-clause-only : goal.returns-in-NewSource-clause-only
returns-in-NewSource-clause-only g c n = cc ((c.arrive.ensures.only n).0, c.in-NewSource.is)

pub returns-in-NewSource-clause-reception : goal.returns-in-NewSource-clause-reception
returns-in-NewSource-clause-reception g c =
    ap (λ (x : Incoming g.row.N). x.stream.reception) c.lay_at-in-NewSource.ensures.others
    ∙ ap (λ (x : Incoming g.row.N). x.stream.reception) c.note_source.ensures.others ∙ c.arrive.ensures.reception

pub returns-in-NewSource-clause-lays : goal.returns-in-NewSource-clause-lays
returns-in-NewSource-clause-lays g c taken =
    laid_by c.args.self.now c.arrive.new.self c.note_source.new.self c.lay_at-in-NewSource.new.self c.args.header.now c.args.payload.now c.args.tick
    c.args.behind c.arrive.result NewSource c.in-NewSource.is c.arrive.ensures.arrival c.arrive.ensures.arrives
    (ap (λ (x : Incoming g.row.N). x.stream) c.note_source.ensures.others)
    (ap (λ (x : Incoming g.row.N). x.is_framed) c.note_source.ensures.others ∙ ap (λ (x : Incoming g.row.N). x.is_framed) c.arrive.ensures.others)
    (c.note_source.ensures.counts
    ∙ ap (λ (b : Bool). sourced_counts b c.args.self.now.stream.reception c.arrive.new.self.counts) c.is_some-was_heard.ensures
    ∙ ap (λ (x : Incoming g.row.N). sourced_counts (is_some c.args.self.now.stream.sources.heard) c.args.self.now.stream.reception x.counts)
    c.arrive.ensures.others)
    c.lay_at-in-NewSource.ensures.laid c.lay_at-in-NewSource.ensures.counts

pub returns-in-Jump-clause-only : goal.returns-in-Jump-clause-only
returns-in-Jump-clause-only g c n = cc ((c.arrive.ensures.only n).0, c.in-Jump.is)

pub returns-in-Jump-clause-reception : goal.returns-in-Jump-clause-reception
returns-in-Jump-clause-reception g c =
    ap (λ (x : Incoming g.row.N). x.stream.reception) c.lay_at-in-Jump.ensures.others ∙ c.arrive.ensures.reception

pub returns-in-Jump-clause-lays : goal.returns-in-Jump-clause-lays
returns-in-Jump-clause-lays g c taken =
    laid_by c.args.self.now c.arrive.new.self (jumped c.arrive.new.self) c.lay_at-in-Jump.new.self c.args.header.now c.args.payload.now c.args.tick
    c.args.behind c.arrive.result Jump c.in-Jump.is c.arrive.ensures.arrival c.arrive.ensures.arrives refl
    (ap (λ (x : Incoming g.row.N). x.is_framed) c.arrive.ensures.others)
    (ap (λ (x : Incoming g.row.N). (jumped x).counts) c.arrive.ensures.others) c.lay_at-in-Jump.ensures.laid c.lay_at-in-Jump.ensures.counts

pub returns-in-OnProbation-clause-reception : goal.returns-in-OnProbation-clause-reception
returns-in-OnProbation-clause-reception g c =
    ap (λ (x : Incoming g.row.N). x.stream.reception) c.refuse.ensures.value ∙ c.arrive.ensures.reception

pub returns-in-GivenUp-clause-reception : goal.returns-in-GivenUp-clause-reception
returns-in-GivenUp-clause-reception g c =
    ap (λ (x : Incoming g.row.N). x.stream.reception) c.refuse-in-GivenUp.ensures.value ∙ c.arrive.ensures.reception

pub returns-in-Far-clause-reception : goal.returns-in-Far-clause-reception
returns-in-Far-clause-reception g c =
    ap (λ (x : Incoming g.row.N). x.stream.reception) c.refuse-in-Far.ensures.value ∙ c.arrive.ensures.reception

pub returns-in-At-clause-only : goal.returns-in-At-clause-only
returns-in-At-clause-only g c n = cc ((c.arrive.ensures.only n).0, c.in-At.is)

pub returns-in-At-clause-outcome : goal.returns-in-At-clause-outcome
returns-in-At-clause-outcome g c = c.lay_at.ensures.taken ∙ ap outcome_by (sym c.in-At.is ∙ c.arrive.ensures.arrival)

pub returns-in-NewSource-clause-outcome : goal.returns-in-NewSource-clause-outcome
returns-in-NewSource-clause-outcome g c = c.lay_at-in-NewSource.ensures.taken ∙ ap outcome_by (sym c.in-NewSource.is ∙ c.arrive.ensures.arrival)

pub returns-in-Jump-clause-outcome : goal.returns-in-Jump-clause-outcome
returns-in-Jump-clause-outcome g c = c.lay_at-in-Jump.ensures.taken ∙ ap outcome_by (sym c.in-Jump.is ∙ c.arrive.ensures.arrival)

pub returns-in-At-clause-sources : goal.returns-in-At-clause-sources
returns-in-At-clause-sources g c =
    ap (λ (x : Incoming g.row.N). x.stream.sources) c.lay_at.ensures.others
    ∙ ap (λ (x : Incoming g.row.N). x.stream.sources) c.note_place.ensures.others ∙ c.arrive.ensures.sources

pub returns-in-NewSource-clause-sources : goal.returns-in-NewSource-clause-sources
returns-in-NewSource-clause-sources g c =
    ap (λ (x : Incoming g.row.N). x.stream.sources) c.lay_at-in-NewSource.ensures.others
    ∙ ap (λ (x : Incoming g.row.N). x.stream.sources) c.note_source.ensures.others ∙ c.arrive.ensures.sources

pub returns-in-Jump-clause-sources : goal.returns-in-Jump-clause-sources
returns-in-Jump-clause-sources g c =
    ap (λ (x : Incoming g.row.N). x.stream.sources) c.lay_at-in-Jump.ensures.others ∙ c.arrive.ensures.sources

pub returns-in-OnProbation-clause-sources : goal.returns-in-OnProbation-clause-sources
returns-in-OnProbation-clause-sources g c =
    ap (λ (x : Incoming g.row.N). x.stream.sources) c.refuse.ensures.value ∙ c.arrive.ensures.sources

pub returns-in-GivenUp-clause-sources : goal.returns-in-GivenUp-clause-sources
returns-in-GivenUp-clause-sources g c =
    ap (λ (x : Incoming g.row.N). x.stream.sources) c.refuse-in-GivenUp.ensures.value ∙ c.arrive.ensures.sources

pub returns-in-Far-clause-sources : goal.returns-in-Far-clause-sources
returns-in-Far-clause-sources g c =
    ap (λ (x : Incoming g.row.N). x.stream.sources) c.refuse-in-Far.ensures.value ∙ c.arrive.ensures.sources

pub returns-in-At-clause-track : goal.returns-in-At-clause-track
returns-in-At-clause-track g c =
    ap (λ (x : Incoming g.row.N). x.stream.track) c.lay_at.ensures.others
    ∙ ap (λ (x : Incoming g.row.N). x.stream.track) c.note_place.ensures.others ∙ c.arrive.ensures.track

pub returns-in-NewSource-clause-track : goal.returns-in-NewSource-clause-track
returns-in-NewSource-clause-track g c =
    ap (λ (x : Incoming g.row.N). x.stream.track) c.lay_at-in-NewSource.ensures.others
    ∙ ap (λ (x : Incoming g.row.N). x.stream.track) c.note_source.ensures.others ∙ c.arrive.ensures.track

pub returns-in-Jump-clause-track : goal.returns-in-Jump-clause-track
returns-in-Jump-clause-track g c =
    ap (λ (x : Incoming g.row.N). x.stream.track) c.lay_at-in-Jump.ensures.others ∙ c.arrive.ensures.track

pub returns-in-OnProbation-clause-track : goal.returns-in-OnProbation-clause-track
returns-in-OnProbation-clause-track g c =
    ap (λ (x : Incoming g.row.N). x.stream.track) c.refuse.ensures.value ∙ c.arrive.ensures.track

pub returns-in-GivenUp-clause-track : goal.returns-in-GivenUp-clause-track
returns-in-GivenUp-clause-track g c =
    ap (λ (x : Incoming g.row.N). x.stream.track) c.refuse-in-GivenUp.ensures.value ∙ c.arrive.ensures.track

pub returns-in-Far-clause-track : goal.returns-in-Far-clause-track
returns-in-Far-clause-track g c =
    ap (λ (x : Incoming g.row.N). x.stream.track) c.refuse-in-Far.ensures.value ∙ c.arrive.ensures.track

pub returns-in-At-clause-latest : goal.returns-in-At-clause-latest
returns-in-At-clause-latest g c taken =
    ap (λ (x : Incoming g.row.N). x.stream.heard_at) c.lay_at.ensures.others
    ∙ ap (λ (x : Incoming g.row.N). x.stream.heard_at) c.note_place.ensures.others
    ∙ (c.arrive.ensures.arrives.at c.in-At.place c.in-At.is).3

pub returns-in-NewSource-clause-latest : goal.returns-in-NewSource-clause-latest
returns-in-NewSource-clause-latest g c taken =
    ap (λ (x : Incoming g.row.N). x.stream.heard_at) c.lay_at-in-NewSource.ensures.others
    ∙ ap (λ (x : Incoming g.row.N). x.stream.heard_at) c.note_source.ensures.others ∙ (c.arrive.ensures.arrives.begins c.in-NewSource.is).1

pub returns-in-Jump-clause-latest : goal.returns-in-Jump-clause-latest
returns-in-Jump-clause-latest g c taken =
    ap (λ (x : Incoming g.row.N). x.stream.heard_at) c.lay_at-in-Jump.ensures.others ∙ (c.arrive.ensures.arrives.jumps c.in-Jump.is).1

pub returns-in-At-clause-settings : goal.returns-in-At-clause-settings
returns-in-At-clause-settings g c =
    kept_laid c.args.self.now c.arrive.new.self c.note_place.new.self c.lay_at.new.self
    (kept_if c.args.self.now c.arrive.new.self _ c.arrive.ensures.others refl) c.note_place.ensures.others c.lay_at.ensures.others

pub returns-in-NewSource-clause-settings : goal.returns-in-NewSource-clause-settings
returns-in-NewSource-clause-settings g c =
    kept_laid c.args.self.now c.arrive.new.self c.note_source.new.self c.lay_at-in-NewSource.new.self
    (kept_if c.args.self.now c.arrive.new.self _ c.arrive.ensures.others refl) c.note_source.ensures.others c.lay_at-in-NewSource.ensures.others

pub returns-in-Jump-clause-settings : goal.returns-in-Jump-clause-settings
returns-in-Jump-clause-settings g c =
    kept_laid c.args.self.now c.arrive.new.self (jumped c.arrive.new.self) c.lay_at-in-Jump.new.self
    (kept_if c.args.self.now c.arrive.new.self _ c.arrive.ensures.others refl) refl c.lay_at-in-Jump.ensures.others

pub returns-in-OnProbation-clause-settings : goal.returns-in-OnProbation-clause-settings
returns-in-OnProbation-clause-settings g c =
    kept_refused c.args.self.now c.arrive.new.self c.refuse.new.self _ (kept_if c.args.self.now c.arrive.new.self _ c.arrive.ensures.others refl)
    c.refuse.ensures.value

pub returns-in-GivenUp-clause-settings : goal.returns-in-GivenUp-clause-settings
returns-in-GivenUp-clause-settings g c =
    kept_refused c.args.self.now c.arrive.new.self c.refuse-in-GivenUp.new.self _ (kept_if c.args.self.now c.arrive.new.self _ c.arrive.ensures.others refl)
    c.refuse-in-GivenUp.ensures.value

pub returns-in-Far-clause-settings : goal.returns-in-Far-clause-settings
returns-in-Far-clause-settings g c =
    kept_refused c.args.self.now c.arrive.new.self c.refuse-in-Far.new.self _ (kept_if c.args.self.now c.arrive.new.self _ c.arrive.ensures.others refl)
    c.refuse-in-Far.ensures.value
