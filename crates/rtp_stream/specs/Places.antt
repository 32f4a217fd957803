-- Where the packets of a stream belong: time stamps count samples (RFC 3550, section 5.1), and a period has 160. After
-- the greatest time stamp or period comes 0.
use Rattle.std.specs.Prelude.{ℕ, ◌+◌, ◌-◌, ◌*◌, ◌/◌, ◌%◌, ◌^◌, Bool, ◌&&◌, if◌then◌else◌, nat_lt}
use Rattle.rtp_buffer.specs.Watch.{on, back}
use Rattle.rtp_stream.specs.declared.place.Place.{Place}
use Rattle.rtp_stream.specs.declared.place.Newest.{Newest}

-- the samples of a period of 20 ms
abbrev pub period_samples : ℕ
period_samples = 160

-- the place so many samples after another, and before it
abbrev pub after : Place → ℕ → Place
after place samples = record {
  period = on place.period ((place.sample + samples) / period_samples);
  sample = (place.sample + samples) % period_samples;
}

abbrev pub periods_before : Place → ℕ → ℕ
periods_before place samples = (samples + (period_samples - 1) - place.sample) / period_samples

abbrev pub before : Place → ℕ → Place
before place samples = record {
  period = back place.period (periods_before place samples);
  sample = place.sample + period_samples * periods_before place samples - samples;
}

-- whether a time stamp is after another one, the nearer way round
abbrev pub is_newer : ℕ → ℕ → Bool
is_newer timestamp other = nat_lt 0 (back timestamp other) && nat_lt (back timestamp other) (2 ^ 31)

-- **A packet is as many samples from the newest one as its time stamp is from that one's,** the nearer way round.
abbrev pub place_of : Newest → ℕ → Place
place_of newest timestamp =
    if nat_lt (back timestamp newest.timestamp) (2 ^ 31) then after newest.place (back timestamp newest.timestamp)
    else before newest.place (back newest.timestamp timestamp)
