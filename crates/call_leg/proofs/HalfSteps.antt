-- For crates above: a half's turn leaves it bridged or not (`up-keeps`, `down-keeps`), and joined halves have their
-- uplink back (`up_of-joined`).
-- The turns of the halves of a leg, by what the functions make of memories.
use Rattle.std.proofs.Common.{◌≡◌, refl, sym, ap, ◌∙◌, ℕ, Bool, not, nat_le, Option, Some, None, is_some, unwrap_or, Bor, List, length}
use Rattle.std.specs.Prelude.{option_copied}
use Rattle.rx_handler.specs.declared.effective.Effective.{Effective}
use Rattle.trau_io.specs.declared.ends.Counts.{Counts}
use Rattle.frame_sync.specs.declared.yields.Yield.{Yield}
use Rattle.frame_sync.specs.Step as search
use Rattle.frame_sync.specs.Memory.{SyncMemory}
use Rattle.rx_handler.specs.Origin.{EffectiveFields}
use Rattle.rx_handler.specs.Step.{received}
use Rattle.rx_handler.specs.Memory.{RxMemory}
use Rattle.fr_decoder.specs.Memory.{DecoderMemory}
use Rattle.down_framer.specs.Step.{after_put}
use Rattle.std.proofs.lemmas.Bool.{cond_both}
use Rattle.trau_alaw.specs.declared.Law.{Law}
use Rattle.call_leg.specs.Uplink.{Sighting, sighting_in, heard_as, field_of, dtx_told}
use Rattle.call_leg.specs.Counted.{counted}
use Rattle.call_leg.specs.Memory.{DownMemory, LegMemory}
use Rattle.call_leg.specs.Step.{played, frame_made, frame_tried, with_framer, down_worked}
use Rattle.call_leg.specs.Halves.{UpMemory, up_of, joined, Note, note_of, up_turned, noted, with_handed, down_turned, up_worked, item_of}

-- ---- what the functions make of memories

-- what a turn of the uplink half gives
abbrev three : Note → List ℕ → UpMemory → Note × List ℕ × UpMemory
three n out u = (n, out, u)

-- what it leaves
abbrev left : Law → SyncMemory → RxMemory → DecoderMemory → Counts → Bool → UpMemory
left l a b c d e = record { law = l; search = a; rx = b; decoder = c; counts = d; bridged = e }

-- the turn of the uplink half, by the steps of its parts
pub turn-step : (u : UpMemory) (up : List ℕ) (y : Option Yield) (found : SyncMemory) (s : Sighting) (e : EffectiveFields) (heard : RxMemory)
    (out : List ℕ) (decoder1 : DecoderMemory) (n : Counts) (ask : ℕ) (dtx : Option Bool) →
    search.next_period u.search up ≡ (y, found) → s ≡ sighting_in y → received u.rx (heard_as s) ≡ (e, heard) → played u.law u.decoder e (not u.bridged)
    ≡ (out, decoder1) →
    n ≡ counted s u.counts → ask ≡ unwrap_or (field_of s) 0 → dtx ≡ dtx_told s →
    up_turned u up
    ≡ (record { eff = e; ask = ask; dtx = dtx }, out, record { law = u.law; search = found; rx = heard; decoder = decoder1; counts = n; bridged = u.bridged })
unfolding up_turned
turn-step u up y found s e heard out decoder1 n ask dtx ey es er ep en ea ed =
    ap (λ (f : Option Yield × SyncMemory).
    let w = sighting_in f.0 in
    let h = received u.rx (heard_as w) in
    let o = played u.law u.decoder h.0 (not u.bridged) in
    three (note_of w h.0) o.0 (left u.law f.1 h.1 o.1 (counted w u.counts) u.bridged)) ey
    ∙ ap (λ (w : Sighting).
    let h = received u.rx (heard_as w) in
    let o = played u.law u.decoder h.0 (not u.bridged) in
    three (note_of w h.0) o.0 (left u.law found h.1 o.1 (counted w u.counts) u.bridged)) (sym es)
    ∙ ap (λ (h : EffectiveFields × RxMemory). let o = played u.law u.decoder h.0 (not u.bridged) in three (note_of s h.0) o.0
    (left u.law found h.1 o.1 (counted s u.counts) u.bridged)) er
    ∙ ap (λ (o : List ℕ × DecoderMemory). three (note_of s e) o.0 (left u.law found heard o.1 (counted s u.counts) u.bridged)) ep
    ∙ ap (λ (z : Counts). three (note_of s e) out (left u.law found heard decoder1 z u.bridged)) (sym en)
    ∙ ap (λ (z : ℕ). three (record { eff = e; ask = z; dtx = dtx_told s }) out (left u.law found heard decoder1 n u.bridged)) (sym ea)
    ∙ ap (λ (z : Option Bool). three (record { eff = e; ask = ask; dtx = z }) out (left u.law found heard decoder1 n u.bridged)) (sym ed)

-- a copy of an item is there exactly where the item is
pub is_some-item : (item : Option (Bor Effective)) → is_some (item_of (option_copied item)) ≡ is_some item
is_some-item None = refl
is_some-item (Some e) = refl

-- the turn of the downlink half, by its steps
pub down_turn-step : (d0 d1 d2 : DownMemory) (n : Note) (item : Option EffectiveFields) (pcm bits : List ℕ) (d3 : DownMemory) → d1 ≡ noted d0 n →
    d2 ≡ with_handed d1 item → down_worked d2 pcm ≡ (bits, d3) →
    down_turned d0 n item pcm ≡ (bits, d3)
unfolding down_turned
down_turn-step d0 d1 d2 n item pcm bits d3 a b c = ap (λ d. down_worked (with_handed d item) pcm) (sym a) ∙ ap (λ d. down_worked d pcm) (sym b) ∙ c

-- ---- a leg of two halves

-- halves of one bridge are those of their leg
pub up_of-joined : (u : UpMemory) (d : DownMemory) → u.bridged ≡ d.bridged → up_of (joined u d) ≡ u
up_of-joined u d e = ap (left u.law u.search u.rx u.decoder u.counts) (sym e)

-- the uplink half of a leg's period, by the turn of its uplink half, whose note the other takes over
pub leg-step : (u u1 : UpMemory) (d d1 : DownMemory) (m : LegMemory) (up out : List ℕ) (n : Note) → joined u d ≡ m → u.bridged ≡ d.bridged →
    up_turned u up ≡ (n, out, u1) → d1 ≡ noted d n →
    up_worked m up ≡ (n.eff, out, joined u1 d1)
unfolding up_worked
leg-step u u1 d d1 m up out n em eb et ed =
    let after : Note × List ℕ × UpMemory → EffectiveFields × List ℕ × LegMemory = λ t. (t.0.eff, t.1, joined t.2 (noted d t.0)) in
    ap (λ (l : LegMemory). up_worked l up) (sym em)
    ∙ ap (λ (x : UpMemory). after (up_turned x up)) (up_of-joined u d eb) ∙ ap after et ∙ ap (λ (x : DownMemory). (n.eff, out, joined u1 x)) (sym ed)

-- ---- a bridge stays on or off over a period

-- over the uplink half's turn
pub up-keeps : (u : UpMemory) (up : List ℕ) → (up_turned u up).2.bridged ≡ u.bridged
unfolding up_turned
up-keeps u up = refl

-- where a frame is tried
tried-keeps : (d : DownMemory) → (frame_tried d).bridged ≡ d.bridged
unfolding frame_made
tried-keeps d = cond_both (nat_le 160 (length d.framer.held)) (frame_made d) d (λ (m : DownMemory). m.bridged ≡ d.bridged) (λ y. refl) (λ n. refl)

-- where a frame is handed over
handed-keeps : (d : DownMemory) (item : Option EffectiveFields) → (with_handed d item).bridged ≡ d.bridged
handed-keeps d None = refl
handed-keeps d (Some e) = refl

-- over the downlink half of a period
pub half-keeps : (d : DownMemory) (pcm : List ℕ) → (down_worked d pcm).1.bridged ≡ d.bridged
unfolding down_worked
half-keeps d pcm = let put = with_framer d (after_put d.framer pcm) in tried-keeps (frame_tried put) ∙ tried-keeps put

-- over the downlink half's turn
pub down-keeps : (d : DownMemory) (n : Note) (item : Option EffectiveFields) (pcm : List ℕ) → (down_turned d n item pcm).1.bridged ≡ d.bridged
unfolding down_turned
down-keeps d n item pcm = half-keeps (with_handed (noted d n) item) pcm ∙ handed-keeps (noted d n) item
