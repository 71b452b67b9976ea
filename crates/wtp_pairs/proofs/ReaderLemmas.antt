-- The first thing that what is sent gives to the reader of its stream.
use Rattle.std.proofs.Common.{◌≡◌, ℕ, ◌^◌, ◌<◌, ◌≤◌, ◌==◌, Bool, true, false, List, [], ◌∷◌, ◌++◌, length, Option, Some, None, Result, Ok, refl, ap, ◌∙◌, arith, lit<, append_assoc}
use Rattle.std.proofs.lemmas.Bool.{le-ltb, ne_eqb}
use Rattle.std.proofs.lemmas.List.{append-nil}
use Rattle.wtp_core.specs.Varint.{shortest}
use Rattle.wtp_core.proofs.LeastLemmas.{at_most_8}
use Rattle.wtp_core.proofs.ShortLemmas.{shortest-encodes}
use Rattle.wtp_wire.specs.Content.{HeadersOf, SettingsOf}
use Rattle.wtp_wire.specs.Wire.{wire}
use Rattle.wtp_frames.specs.declared.endpoint.Endpoint.{Endpoint}
use Rattle.wtp_frames.specs.declared.endpoint.Side.{Side}
use Rattle.wtp_frames.specs.declared.endpoint.Side.TheVariants.{Client, Server}
use Rattle.wtp_frames.specs.declared.fault.Fault.{Fault}
use Rattle.wtp_frames.specs.declared.frame_type.FrameType.TheVariants as kind
use Rattle.wtp_frames.specs.declared.reader.Place.{Place}
use Rattle.wtp_frames.specs.declared.reader.Place.TheVariants.{Body, AfterTrailers, Tunnel, AfterSettings}
use Rattle.wtp_frames.specs.declared.reader.Reader.{Reader}
use Rattle.wtp_frames.specs.Grammar.{written}
use Rattle.wtp_frames.specs.Item.{Whole}
use Rattle.wtp_frames.specs.Rules.{data_frame, is_request, not_above, goes_away, one_number, with_number}
use Rattle.wtp_frames.specs.Run.{stays, streams}
use Rattle.wtp_frames.specs.Start.{awaiting, control_reader, between}
use Rattle.wtp_frames.specs.First.{first}
use Rattle.wtp_frames.proofs.FirstLemmas.{moves_given, moves_whole, moves_frame}
use Rattle.wtp_frames.proofs.GrammarLemmas.{encoded_number, number_gives}
use Rattle.wtp_sending.specs.Control.{goaway_bytes, is_named, rises}
use Rattle.wtp_sending.specs.Message.{data_head}
use Rattle.wtp_sending.specs.Sent.{reads_data}
use Rattle.wtp_sending.proofs.ReadLemmas.{frame_of, frame_is}
use Rattle.wtp_pairs.proofs.FrameLemmas.{first_whole, first_part, Streams, first_streamed, first_unstreamed}

-- ---- SETTINGS

pub settings_wire_is : (payload : List ℕ) → wire (SettingsOf payload) ≡ written (frame_of 4 payload)
settings_wire_is payload = ap (λ (l : List ℕ). shortest 4 ++ (shortest (length payload) ++ l)) (append-nil payload)

pub settings_first : (e : Endpoint) (payload more : List ℕ) → length payload ≤ 4096 → first (control_reader e) (wire (SettingsOf payload) ++ more) ≡ record { items = Whole kind.Settings payload ∷ []; reader = between e 0 (AfterSettings None None) false 0; left = more }
settings_first e payload more l =
    ap (λ (x : List ℕ). first (control_reader e) (x ++ more)) (settings_wire_is payload)
    ∙ first_whole (control_reader e) 4 (frame_of 4 payload) more (AfterSettings None None) (frame_is 4 payload (lit< tt) (omega arith))
    (λ bytes rest left h p. moves_whole (control_reader e) bytes rest payload left 4 (length payload) (Ok (AfterSettings None None)) (record { intact = refl; none = refl }) h (rw (le-ltb 4096 (length payload) l) refl) p refl)

pub settings_part : (e : Endpoint) (payload a b : List ℕ) → length payload ≤ 4096 → a ++ b ≡ wire (SettingsOf payload) → 0 < length b → first (control_reader e) a ≡ stays (control_reader e) a
settings_part e payload a b l parts some =
    first_part (control_reader e) 4 (frame_of 4 payload) a b (record { intact = refl; none = refl }) (frame_is 4 payload (lit< tt) (omega arith))
    (λ bytes rest h p. moves_given (control_reader e) bytes rest 4 (length payload) None (record { intact = refl; none = refl }) h (rw (le-ltb 4096 (length payload) l) refl) p)
    (parts ∙ settings_wire_is payload) some

-- ---- GOAWAY

requested : (side : Side) (n : ℕ) → is_named side n ≡ true → is_request side n ≡ Ok n
requested Client n h = rw h refl
requested Server n h = refl

falls : (goaway push : Option ℕ) (n : ℕ) → rises goaway n ≡ false → not_above goaway n push ≡ Ok (AfterSettings (Some n) push)
falls None push n h = refl
falls (Some last) push n h = rw h refl

goaway_place : (e : Endpoint) (goaway : Option ℕ) (n : ℕ) → n < 2 ^ 62 → is_named e.side n ≡ true → rises goaway n ≡ false → with_number e.side goaway None kind.GoAway (one_number (shortest n)) ≡ Ok (AfterSettings (Some n) None)
goaway_place e goaway n fits named low =
    ap (λ (o : Option ℕ). with_number e.side goaway None kind.GoAway o) (encoded_number n (shortest n) (shortest-encodes n fits))
    ∙ ap (λ (x : Result ℕ Fault). goes_away goaway None x) (requested e.side n named)
    ∙ falls goaway None n low

pub goaway_first : (e : Endpoint) (goaway : Option ℕ) (b : Bool) (i n : ℕ) (more : List ℕ) → n < 2 ^ 62 → is_named e.side n ≡ true → rises goaway n ≡ false → first (between e 0 (AfterSettings goaway None) b i) (goaway_bytes n ++ more) ≡ record { items = Whole kind.GoAway (shortest n) ∷ []; reader = between e 0 (AfterSettings (Some n) None) false 0; left = more }
goaway_first e goaway b i n more fits named low =
    first_whole (between e 0 (AfterSettings goaway None) b i) 7 (frame_of 7 (shortest n)) more (AfterSettings (Some n) None) (frame_is 7 (shortest n) (lit< tt) (omega (arith, at_most_8 n)))
    (λ bytes rest left h p. moves_whole (between e 0 (AfterSettings goaway None) b i) bytes rest (shortest n) left 7 (length (shortest n)) (Ok (AfterSettings (Some n) None)) (record { intact = refl; none = refl }) h (number_gives (length (shortest n)) (at_most_8 n)) p (goaway_place e goaway n fits named low))

pub goaway_part : (e : Endpoint) (goaway : Option ℕ) (c : Bool) (i n : ℕ) (a b : List ℕ) → a ++ b ≡ goaway_bytes n → 0 < length b → first (between e 0 (AfterSettings goaway None) c i) a ≡ stays (between e 0 (AfterSettings goaway None) c i) a
goaway_part e goaway c i n a b parts some =
    first_part (between e 0 (AfterSettings goaway None) c i) 7 (frame_of 7 (shortest n)) a b (record { intact = refl; none = refl }) (frame_is 7 (shortest n) (lit< tt) (omega (arith, at_most_8 n)))
    (λ bytes rest h p. moves_given (between e 0 (AfterSettings goaway None) c i) bytes rest 7 (length (shortest n)) None (record { intact = refl; none = refl }) h (number_gives (length (shortest n)) (at_most_8 n)) p)
    parts some

-- ---- HEADERS

pub headers_wire_is : (payload : List ℕ) → wire (HeadersOf payload) ≡ written (frame_of 1 payload)
headers_wire_is payload = ap (λ (l : List ℕ). shortest 1 ++ (shortest (length payload) ++ l)) (append-nil payload)

-- those of the head of a message
pub head_first : (e : Endpoint) (k : ℕ) (payload more : List ℕ) → length payload < 2 ^ 62 → length payload ≤ e.max_section → first (awaiting e k) (wire (HeadersOf payload) ++ more) ≡ record { items = Whole kind.Headers payload ∷ []; reader = reads_data e k Body false 0; left = more }
head_first e k payload more fits l =
    ap (λ (x : List ℕ). first (awaiting e k) (x ++ more)) (headers_wire_is payload)
    ∙ first_whole (awaiting e k) 1 (frame_of 1 payload) more Body (frame_is 1 payload (lit< tt) fits)
    (λ bytes rest left h p. moves_whole (awaiting e k) bytes rest payload left 1 (length payload) (Ok Body) (record { intact = refl; none = refl }) h (rw (le-ltb e.max_section (length payload) l) refl) p refl)

pub head_part : (e : Endpoint) (k : ℕ) (payload a b : List ℕ) → length payload < 2 ^ 62 → length payload ≤ e.max_section → a ++ b ≡ wire (HeadersOf payload) → 0 < length b → first (awaiting e k) a ≡ stays (awaiting e k) a
head_part e k payload a b fits l parts some =
    first_part (awaiting e k) 1 (frame_of 1 payload) a b (record { intact = refl; none = refl }) (frame_is 1 payload (lit< tt) fits)
    (λ bytes rest h p. moves_given (awaiting e k) bytes rest 1 (length payload) None (record { intact = refl; none = refl }) h (rw (le-ltb e.max_section (length payload) l) refl) p)
    (parts ∙ headers_wire_is payload) some

-- the trailers
pub trailers_first : (e : Endpoint) (k : ℕ) (s : Bool) (payload more : List ℕ) → length payload < 2 ^ 62 → length payload ≤ e.max_section → first (reads_data e k Body s 0) (wire (HeadersOf payload) ++ more) ≡ record { items = Whole kind.Headers payload ∷ []; reader = reads_data e k AfterTrailers false 0; left = more }
trailers_first e k s payload more fits l =
    ap (λ (x : List ℕ). first (reads_data e k Body s 0) (x ++ more)) (headers_wire_is payload)
    ∙ first_whole (reads_data e k Body s 0) 1 (frame_of 1 payload) more AfterTrailers (frame_is 1 payload (lit< tt) fits)
    (λ bytes rest left h p. moves_whole (reads_data e k Body s 0) bytes rest payload left 1 (length payload) (Ok AfterTrailers) (record { intact = refl; none = refl }) h (rw (le-ltb e.max_section (length payload) l) refl) p refl)

pub trailers_part : (e : Endpoint) (k : ℕ) (s : Bool) (payload a b : List ℕ) → length payload < 2 ^ 62 → length payload ≤ e.max_section → a ++ b ≡ wire (HeadersOf payload) → 0 < length b → first (reads_data e k Body s 0) a ≡ stays (reads_data e k Body s 0) a
trailers_part e k s payload a b fits l parts some =
    first_part (reads_data e k Body s 0) 1 (frame_of 1 payload) a b (record { intact = refl; none = refl }) (frame_is 1 payload (lit< tt) fits)
    (λ bytes rest h p. moves_given (reads_data e k Body s 0) bytes rest 1 (length payload) None (record { intact = refl; none = refl }) h (rw (le-ltb e.max_section (length payload) l) refl) p)
    (parts ∙ headers_wire_is payload) some

-- ---- DATA

some_data : (n : ℕ) → 0 < n → (n == 0) ≡ false
some_data n l = ne_eqb n 0 (λ z. omega (arith, z))

-- after the head of a frame with content nothing is counted
data_streams : (e : Endpoint) (k n : ℕ) (place : Place) (s : Bool) → 0 < n → streams (reads_data e k place s 0) n ≡ reads_data e k place true n
data_streams e k n place s l = rw (some_data n l) refl

body_streams : (e : Endpoint) (k n : ℕ) (s : Bool) → 0 < n → Streams (reads_data e k Body s 0) (reads_data e k Body true n) 0 n
body_streams e k n s l = λ bytes rest h. moves_frame (reads_data e k Body s 0) bytes rest 0 n (data_frame 0 n) (record { intact = refl; none = refl }) h refl ∙ rw (some_data n l) (ap (λ (x : Reader). stays x rest) (data_streams e k n Body s l))

tunnel_streams : (e : Endpoint) (k n : ℕ) (s : Bool) → 0 < n → Streams (reads_data e k Tunnel s 0) (reads_data e k Tunnel true n) 0 n
tunnel_streams e k n s l = λ bytes rest h. moves_frame (reads_data e k Tunnel s 0) bytes rest 0 n (data_frame 0 n) (record { intact = refl; none = refl }) h refl ∙ rw (some_data n l) (ap (λ (x : Reader). stays x rest) (data_streams e k n Tunnel s l))

abbrev data_first_at : Endpoint → ℕ → ℕ → Place → Bool → List ℕ → Type 0
data_first_at e k n place s more = first (reads_data e k place s 0) (data_head n ++ more) ≡ first (reads_data e k place true n) more

data_by : (e : Endpoint) (k n : ℕ) (place : Place) (s : Bool) (more : List ℕ) → 0 < n → n < 2 ^ 62 → Streams (reads_data e k place s 0) (reads_data e k place true n) 0 n → data_first_at e k n place s more
data_by e k n place s more some fits is =
    ap (λ (x : List ℕ). first (reads_data e k place s 0) x) (append_assoc (shortest 0) (shortest n) more)
    ∙ first_streamed (reads_data e k place s 0) (reads_data e k place true n) 0 n (shortest 0) (shortest n) more (shortest-encodes 0 (lit< tt)) (shortest-encodes n fits) is

pub data_first : (e : Endpoint) (k n : ℕ) (s : Bool) (more : List ℕ) → 0 < n → n < 2 ^ 62 → first (reads_data e k Body s 0) (data_head n ++ more) ≡ first (reads_data e k Body true n) more
data_first e k n s more some fits = data_by e k n Body s more some fits (body_streams e k n s some)

pub tunnel_first : (e : Endpoint) (k n : ℕ) (s : Bool) (more : List ℕ) → 0 < n → n < 2 ^ 62 → first (reads_data e k Tunnel s 0) (data_head n ++ more) ≡ first (reads_data e k Tunnel true n) more
tunnel_first e k n s more some fits = data_by e k n Tunnel s more some fits (tunnel_streams e k n s some)

pub data_part : (e : Endpoint) (k n : ℕ) (s : Bool) (a b : List ℕ) → n < 2 ^ 62 → a ++ b ≡ data_head n → 0 < length b → first (reads_data e k Body s 0) a ≡ stays (reads_data e k Body s 0) a
data_part e k n s a b fits parts some = first_unstreamed (reads_data e k Body s 0) 0 n (shortest 0) (shortest n) a b (record { intact = refl; none = refl }) (shortest-encodes 0 (lit< tt)) (shortest-encodes n fits) parts some

pub tunnel_part : (e : Endpoint) (k n : ℕ) (s : Bool) (a b : List ℕ) → n < 2 ^ 62 → a ++ b ≡ data_head n → 0 < length b → first (reads_data e k Tunnel s 0) a ≡ stays (reads_data e k Tunnel s 0) a
tunnel_part e k n s a b fits parts some = first_unstreamed (reads_data e k Tunnel s 0) 0 n (shortest 0) (shortest n) a b (record { intact = refl; none = refl }) (shortest-encodes 0 (lit< tt)) (shortest-encodes n fits) parts some
