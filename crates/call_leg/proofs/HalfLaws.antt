-- For crates above: after its turn or its bridge's end, each half still stands for its history; the turn gives the
-- call's note and lines.
-- The halves of a leg, apart, on any memory that stands.
use Rattle.std.proofs.Common.{◌≡◌, refl, sym, ap, ◌∙◌, subst, ℕ, Bool, true, false, not, Option, Some, None, is_some, unwrap_or, List, [], ◌∷◌, ◌++◌, length}
use Rattle.std.proofs.lemmas.List.{append-nil}
use Rattle.circular_buffer.specs.Buffer.{keep_last}
use Rattle.trau_params.specs.Bits260.{bits260}
use Rattle.frame_sync.specs.Step as search
use Rattle.frame_sync.proofs.Steps.{stands-next}
use Rattle.rx_handler.specs.Origin.{EffectiveFields}
use Rattle.rx_handler.specs.Stands as rx
use Rattle.rx_handler.specs.Step.{received}
use Rattle.rx_handler.proofs.Steps.{received_more}
use Rattle.fr_decoder.specs.Stands as decoder
use Rattle.time_align.specs.Shift.{shift_of, asked_then, latest_ask}
use Rattle.time_align.specs.Memory.{AlignMemory}
use Rattle.time_align.specs.Step.{after_ask}
use Rattle.down_framer.specs.Made.{counted_fields}
use Rattle.call_leg.specs.Who.{Who}
use Rattle.call_leg.specs.Uplink.{heard_as, field_of, dtxd_after, is_quiet, handed_fields}
use Rattle.call_leg.specs.Periods.{CallPeriod, ups_of, sighting_after, heard_of, bridges_begun}
use Rattle.call_leg.specs.Settings.{Settings, epoch_now, settings_later, without_bridge, period_with}
use Rattle.call_leg.specs.Counted.{counted}
use Rattle.call_leg.specs.Out.{plain_stretch, decoded_octets, out_of}
use Rattle.call_leg.specs.Down.{down_periods, frames_of, down_now}
use Rattle.call_leg.specs.Memory.{DownMemory}
use Rattle.call_leg.specs.Places.{DownStands, Halfway, Between}
use Rattle.call_leg.specs.Step.{played, after_handing, bridge_over, down_worked}
use Rattle.call_leg.specs.Halves.{UpMemory, Note, note_of, note_in, up_turned, noted, with_handed, down_turned, up_unbridged, handed_bits, UpStands}
use Rattle.call_leg.proofs.Downlink.Bridges.{halfway-short, ends}
use Rattle.call_leg.proofs.UpLaws.{played-stands, plain-more, found_in, hears}
use Rattle.call_leg.proofs.Downlink.Laws.{one_more, half-stands, thawed-kept, thawed-frozen}

-- ---- the uplink half

-- after its turn the uplink half stands a period later
pub turn-stands : (who : Who) (ts : List CallPeriod) (now : Settings) (up pcm : List ℕ) (handed : Option (List ℕ)) (u : UpMemory) → length up ≡ 40 →
    is_some handed ≡ now.bridged →
    UpStands who ts now u → UpStands who (period_with now up pcm handed ∷ ts) (settings_later now) (up_turned u up).2
unfolding up_turned
turn-stands who ts now up pcm handed u l b h =
    let found = search.next_period u.search up in
    let s = found_in u.search up in
    let heard = received u.rx (heard_as s) in
    let out = played u.law u.decoder heard.0 (not u.bridged) in
    let e = hears who.number ts up u.search u.rx l h.search h.rx in
    record {
      law = h.law;
      search = (stands-next u.search found.1 up found.0 l refl (ups_of ts) h.search).0;
      rx = subst (λ z. rx.Stands who.number (heard_as z ∷ heard_of ts) heard.1) e.0
          (received_more who.number (heard_of ts) u.rx (heard_as s) heard.0 heard.1 refl h.rx).0;
      decoder = subst (λ z. decoder.Stands z out.1) (plain-more who.number ts now up pcm handed heard.0 u.bridged e.1 h.bridged b)
          (played-stands u.law heard.0 (not u.bridged) (plain_stretch who.number (epoch_now ts now) ts) u.decoder h.decoder).0;
      counts = ap (λ z. counted z u.counts) e.0 ∙ ap (counted (sighting_after ts up)) h.counts;
      bridged = h.bridged;
    }

-- the note of the turn is that of the period
pub turn-note : (who : Who) (ts : List CallPeriod) (now : Settings) (up : List ℕ) (u : UpMemory) → length up ≡ 40 → UpStands who ts now u → (up_turned u up).0
    ≡ note_in who.number ts up
unfolding up_turned
turn-note who ts now up u l h =
    let e = hears who.number ts up u.search u.rx l h.search h.rx in
    let heard = received u.rx (heard_as (found_in u.search up)) in
    ap (λ z. note_of z heard.0) e.0 ∙ ap (note_of (sighting_after ts up)) e.1

-- what the turn plays is the call's Out line in the period
pub turn-plays : (who : Who) (ts : List CallPeriod) (now : Settings) (up pcm : List ℕ) (handed : Option (List ℕ)) (u : UpMemory) → length up ≡ 40 →
    is_some handed ≡ now.bridged →
    UpStands who ts now u → (up_turned u up).1 ≡ out_of who (period_with now up pcm handed ∷ ts)
unfolding up_turned
turn-plays who ts now up pcm handed u l b h =
    let heard = received u.rx (heard_as (found_in u.search up)) in
    let e = hears who.number ts up u.search u.rx l h.search h.rx in
    let t = period_with now up pcm handed in
    (played-stands u.law heard.0 (not u.bridged) (plain_stretch who.number (epoch_now ts now) ts) u.decoder h.decoder).1
    ∙ ap (decoded_octets u.law) (plain-more who.number ts now up pcm handed heard.0 u.bridged e.1 h.bridged b)
    ∙ ap (λ law. decoded_octets law (plain_stretch who.number (bridges_begun (t ∷ ts)) (t ∷ ts))) h.law

-- where the bridge is taken off the uplink half still stands
pub up_off-stands : (who : Who) (ts : List CallPeriod) (now : Settings) (u : UpMemory) → UpStands who ts now u →
    UpStands who ts (without_bridge now) (up_unbridged u)
up_off-stands who ts now u h = record { law = h.law; search = h.search; rx = h.rx; decoder = h.decoder; counts = h.counts; bridged = refl }

-- ---- the downlink half

-- what an input of the downlink half leaves as it was
same-held : (who : Who) (ts : List CallPeriod) (now : Settings) (d : DownMemory) (align : AlignMemory) (waiting : List (List ℕ)) (dtxd quiet : Bool) →
    align.frozen ≡ d.align.frozen → DownStands who ts now d → DownStands who ts now (record d { align = align; waiting = waiting; dtxd = dtxd; quiet = quiet })
same-held who ts now d align waiting dtxd quiet e h = record {
  law = h.law;
  pcms = h.pcms;
  history = h.history;
  places = h.places;
  frozen = e ∙ h.frozen;
  coded = h.coded;
  sent = h.sent;
  made = h.made;
  level = h.level;
  mode = h.mode;
  bridged = h.bridged;
  alone = h.alone;
  goes_on = h.goes_on;
}

-- the shift of a note is asked for; field 0, which stands for none, asks for nothing
ask-kept : (m : AlignMemory) (field : Option ℕ) (fields : List (Option ℕ)) → m.kept ≡ latest_ask fields →
    (after_ask m (unwrap_or field 0)).kept ≡ latest_ask (field ∷ fields)
unfolding shift_of
ask-kept m None fields e = e
ask-kept m (Some field) fields e = ap (λ o. asked_then field o) e

-- a note is heard
pub noted-stands : (who : Who) (ts : List CallPeriod) (now : Settings) (up : List ℕ) (d : DownMemory) → Between who ts now d →
    Halfway who ts now up None (noted d (note_in who.number ts up))
noted-stands who ts now up d h =
    let s = sighting_after ts up in
    let n = note_in who.number ts up in
    record {
      held = same-held who ts now d (after_ask d.align n.ask) d.waiting (unwrap_or n.dtx d.dtxd) (is_quiet n.eff) refl h.held;
      waits = (d.waiting, h.waits, sym (append-nil d.waiting));
      kept = ask-kept d.align (field_of s) (counted_fields (down_periods ts) (frames_of ts)) h.kept;
      dtxd = ap (dtxd_after s) h.dtxd;
      quiet = refl;
    }

-- the partner's effective frame is handed over
pub handed-stands : (who : Who) (ts : List CallPeriod) (now : Settings) (up : List ℕ) (e : EffectiveFields) (d : DownMemory) → Halfway who ts now up None d →
    Halfway who ts now up (Some (bits260 (handed_fields e))) (after_handing d e)
handed-stands who ts now up e d h =
    let x = bits260 (handed_fields e) in
    record {
      held = same-held who ts now d d.align (keep_last 2 (d.waiting ++ x ∷ [])) d.dtxd d.quiet refl h.held;
      waits = (
        h.waits.0,
        h.waits.1,
        one_more d.waiting x (halfway-short who ts now up d h) ∙ ap (λ (q : List (List ℕ)). q ++ x ∷ []) (h.waits.2 ∙ append-nil h.waits.0),
      );
      kept = h.kept;
      dtxd = h.dtxd;
      quiet = h.quiet;
    }

-- a note is heard, and the partner's effective frame handed over, if there is one
pub halfway_from : (who : Who) (ts : List CallPeriod) (now : Settings) (up : List ℕ) (d : DownMemory) (item : Option EffectiveFields) → Between who ts now d →
    Halfway who ts now up (handed_bits item) (with_handed (noted d (note_in who.number ts up)) item)
halfway_from who ts now up d None h = noted-stands who ts now up d h
halfway_from who ts now up d (Some e) h = handed-stands who ts now up e (noted d (note_in who.number ts up)) (noted-stands who ts now up d h)

-- bits are handed over exactly where a frame is
is_some-handed : (item : Option EffectiveFields) → is_some (handed_bits item) ≡ is_some item
is_some-handed None = refl
is_some-handed (Some e) = refl

-- after its turn the downlink half stands a period later, and gave what the call's Down line has in the period
pub down_turn-stands : (who : Who) (ts : List CallPeriod) (now : Settings) (up pcm : List ℕ) (n : Note) (item : Option EffectiveFields) (d : DownMemory) →
    length pcm ≡ 160 →
    Between who ts now d → n ≡ note_in who.number ts up → is_some item ≡ now.bridged →
    Between who (period_with now up pcm (handed_bits item) ∷ ts) (settings_later now) (down_turned d n item pcm).1
    × ((down_turned d n item pcm).0 ≡ down_now who (period_with now up pcm (handed_bits item) ∷ ts))
unfolding down_turned
down_turn-stands who ts now up pcm n item d l h e b =
    let t = period_with now up pcm (handed_bits item) in
    subst (λ (k : Note). let w = down_worked (with_handed (noted d k) item) pcm in
    Between who (t ∷ ts) (settings_later now) w.1 × (w.0 ≡ down_now who (t ∷ ts))) (sym e)
    (half-stands who ts now up pcm (handed_bits item) (with_handed (noted d (note_in who.number ts up)) item) l (is_some-handed item ∙ b)
    (halfway_from who ts now up d item h))

-- where the bridge is taken off the downlink half still stands
pub down_off-stands : (who : Who) (ts : List CallPeriod) (now : Settings) (d : DownMemory) → d.bridged ≡ true → Between who ts now d →
    Between who ts (without_bridge now) (bridge_over d)
down_off-stands who ts now d b h =
    ends who ts now d (bridge_over d) (sym h.bridged ∙ b) h (thawed-kept d.align false d.waiting) (thawed-frozen d.align false d.waiting) refl refl refl refl
    refl refl refl refl refl refl
