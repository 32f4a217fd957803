-- What a call says of itself to C.
use Rattle.std.specs.Prelude.{ℕ, zero, suc, Option, Some, None, List, [], ◌∷◌}
use Rattle.rtp_session.specs.declared.counts.Counts.{Counts}
use Rattle.rtp_session.specs.declared.incoming.Incoming.{Incoming}
use Rattle.rtp_session.specs.declared.outgoing.Outgoing.{Outgoing}
use Rattle.rtp_call.specs.declared.hearing.Hearing.{Hearing}
use Rattle.rtp_call.specs.declared.call.Call.{Call}
use Rattle.trau_calls.specs.declared.reports.Reports.{Reports}

-- those of datagrams by their reasons, then those of a stream; of what is taken there is no count
abbrev pub counts_of : Counts → List ℕ
counts_of counts = 0 ∷ counts.no_packet ∷ counts.control ∷ counts.other_type ∷ counts.empty ∷ counts.odd_size ∷ counts.too_long ∷ counts.on_probation
    ∷ counts.given_up ∷ counts.far ∷ counts.doubled ∷ counts.late ∷ counts.new_sources ∷ counts.jumps ∷ counts.off_the_grid ∷ counts.slips_on
    ∷ counts.slips_back ∷ counts.received_before ∷ counts.missing_before ∷ []

-- the periods of a call by what they brought
abbrev pub periods_of : Hearing → ℕ → List ℕ
periods_of hearing no_line = hearing.speech ∷ hearing.descriptors ∷ hearing.invalid ∷ hearing.no_frames ∷ hearing.none ∷ no_line ∷ []

-- 1 if there is a source
abbrev pub is_there : Option ℕ → ℕ
is_there None = 0
is_there (Some source) = 1

-- of the streams of a side, and of the call's periods
abbrev pub reports_of : {N : ℕ} → Incoming N → Outgoing → List ℕ → Reports
reports_of incoming outgoing periods = record {
  counts = counts_of incoming.counts;
  periods = periods;
  source = incoming.stream.reception.source;
  first = incoming.stream.reception.first;
  highest = incoming.stream.reception.highest;
  received = incoming.stream.reception.received;
  jitter = incoming.stream.reception.jitter;
  heard = incoming.stream.heard_at;
  stamp = outgoing.timestamp;
  from = outgoing.source;
  packets = outgoing.packets;
  octets = outgoing.octets;
  is_known = is_there incoming.stream.sources.heard;
  was_heard = is_there incoming.stream.sources.heard;
}

-- side 0 is the base station, any other one the exchange
abbrev pub side_reports : ℕ → Call → Reports
side_reports zero call = reports_of call.gsm call.to_gsm (periods_of call.hearing call.no_line)
side_reports (suc other) call = reports_of call.pcm call.to_pcm (periods_of call.hearing call.no_line)
