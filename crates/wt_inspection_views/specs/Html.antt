-- HTML pages.
use Rattle.std.specs.Prelude.{◌≡◌, ℕ, Bool, true, ◌&&◌, ◌||◌, List, [], ◌∷◌, ◌++◌, IsTrue}
use Rattle.std.specs.Prelude.{if◌then◌else◌, nat_eq, nat_le, codes}
use Rattle.std.specs.List.{flat_map, list_all}
use Rattle.wt_inspection_views.specs.declared.html.page.Markup.{Markup}
use Rattle.wt_inspection_views.specs.declared.html.page.Markup.TheVariants as markup-is
use Rattle.wt_inspection_views.specs.declared.html.page.Page.{Page}
use Rattle.wt_inspection_views.specs.declared.html.page.TheConstants.{HEAD, MAIN, TAIL}

-- the HTML form of a byte of text: a character reference for the characters & < > " and ',
-- otherwise the byte itself (HTML, section "Character references")
abbrev pub html_byte : ℕ → List ℕ
html_byte b =
    if nat_eq b 38 then codes "&amp;" else
    if nat_eq b 60 then codes "&lt;" else
    if nat_eq b 62 then codes "&gt;" else
    if nat_eq b 34 then codes "&quot;" else
    if nat_eq b 39 then codes "&#39;" else b ∷ []

-- the escaped form of a text
abbrev pub html_text : List ℕ → List ℕ
html_text = flat_map html_byte

-- the fixed markup that a page may contain
abbrev pub markup_bytes : Markup → List ℕ
markup_bytes markup-is.Head = HEAD.now
markup_bytes markup-is.Main = MAIN.now
markup_bytes markup-is.Bytes = codes "<pre class=\"bytes\">"
markup_bytes markup-is.RowsOf = codes "<span tabindex=\"0\" data-item=\""
markup_bytes markup-is.PartOf = codes "<span data-item=\""
markup_bytes markup-is.TagEnd = codes "\">"
markup_bytes markup-is.HeadOf = codes "<i>"
markup_bytes markup-is.HeadEnd = codes "</i>"
markup_bytes markup-is.SpanEnd = codes "</span>"
markup_bytes markup-is.PreEnd = codes "</pre>"
markup_bytes markup-is.Items = codes "<div class=\"items\">"
markup_bytes markup-is.ItemOf = codes "<div data-item=\""
markup_bytes markup-is.First = codes "<details open><summary>"
markup_bytes markup-is.FirstEnd = codes "</summary>"
markup_bytes markup-is.Line = codes "<span>"
markup_bytes markup-is.Warnings = codes "</details><b>"
markup_bytes markup-is.ItemEnd = codes "</b></div>"
markup_bytes markup-is.Ending = codes "<pre>"
markup_bytes markup-is.Fault = codes "<pre class=\"fault\">"
markup_bytes markup-is.ItemsEnd = codes "</pre></div>"
markup_bytes markup-is.Verdicts = codes "<nav><h2>verdicts</h2>"
markup_bytes markup-is.FaultAt = codes "<a class=\"fault\" href=\"#"
markup_bytes markup-is.RemarkAt = codes "<a class=\"remark\" href=\"#"
markup_bytes markup-is.LinkEnd = codes "</a>"
markup_bytes markup-is.VerdictsEnd = codes "</nav>"
markup_bytes markup-is.Sessions = codes "<nav><h2>sessions</h2>"
markup_bytes markup-is.SessionAt = codes "<a class=\"session\" href=\"#"
markup_bytes markup-is.Group = codes "<section><h2>"
markup_bytes markup-is.GroupNamed =
    codes "</h2><p class=\"ends\"><span>client</span><span>server</span></p>"
markup_bytes markup-is.StreamAt = codes "<section class=\"stream\" id=\""
markup_bytes markup-is.ControlAt = codes "<section class=\"stream paired control\" id=\""
markup_bytes markup-is.EncoderAt = codes "<section class=\"stream paired encoder\" id=\""
markup_bytes markup-is.DecoderAt = codes "<section class=\"stream paired decoder\" id=\""
markup_bytes markup-is.SectionEnd = codes "</section>"
markup_bytes markup-is.Client = codes "<article><h3>"
markup_bytes markup-is.Server = codes "<article class=\"server\"><h3>"
markup_bytes markup-is.Named = codes "</h3>"
markup_bytes markup-is.Folded = codes "<details class=\"folded\"><summary>"
markup_bytes markup-is.FoldedBytes = codes "</summary><pre class=\"bytes\">"
markup_bytes markup-is.FoldedEnd = codes "</pre></details>"
markup_bytes markup-is.SentEnd = codes "</article>"
markup_bytes markup-is.Tail = TAIL.now

-- a piece of a page: fixed markup or text
pub data Piece : Type 0 where
  markup : Markup → Piece
  text : List ℕ → Piece

-- the bytes of a piece: markup unchanged, text escaped
abbrev pub piece_bytes : Piece → List ℕ
piece_bytes (markup m) = markup_bytes m
piece_bytes (text t) = html_text t

-- a complete page: its head, fixed markup and escaped texts, and its tail
abbrev pub IsPage : List ℕ → Type 0
IsPage bytes =
    (pieces : List Piece)
    × (bytes ≡ flat_map piece_bytes (markup markup-is.Head ∷ pieces ++ markup markup-is.Tail ∷ []))

-- ---- the page of a connection

-- an entry of such a page: a verdict on a fault, another verdict, how a session went, or what an end
-- sent on a stream or in a datagram
pub data Entry : Type 0 where
  fault : Entry
  remark : Entry
  summary : Entry
  client : Entry
  server : Entry

-- the entry that markup begins, if it begins one
abbrev pub entry_of : Markup → List Entry
entry_of markup-is.FaultAt = fault ∷ []
entry_of markup-is.RemarkAt = remark ∷ []
entry_of markup-is.SessionAt = summary ∷ []
entry_of markup-is.Client = client ∷ []
entry_of markup-is.Server = server ∷ []
entry_of _ = []

abbrev pub entries_in : Piece → List Entry
entries_in (markup m) = entry_of m
entries_in (text _) = []

-- the entry of a verdict, and that of what an end sent
abbrev pub verdict_entry : Bool → Entry
verdict_entry is_fault = if is_fault then fault else remark

abbrev pub sent_entry : Bool → Entry
sent_entry is_server = if is_server then server else client

-- fixed markup and escaped texts that begin no entry
abbrev pub IsFragment : List ℕ → Type 0
IsFragment bytes =
    (pieces : List Piece) × (bytes ≡ flat_map piece_bytes pieces)
    × (flat_map entries_in pieces ≡ [])

-- the start of a page with these entries: its head, followed by fixed markup and escaped texts
abbrev pub BeginsPageOf : List Entry → List ℕ → Type 0
BeginsPageOf entries bytes =
    (pieces : List Piece) × (bytes ≡ flat_map piece_bytes (markup markup-is.Head ∷ pieces))
    × (flat_map entries_in pieces ≡ entries)

-- a complete page that has these entries in this order, and no others
abbrev pub IsPageOf : List Entry → List ℕ → Type 0
IsPageOf entries bytes =
    (pieces : List Piece)
    × (bytes ≡ flat_map piece_bytes (markup markup-is.Head ∷ pieces ++ markup markup-is.Tail ∷ []))
    × (flat_map entries_in pieces ≡ entries)

-- the page has these entries so far, unless an allocation failed
abbrev pub HasEntries : List Entry → Page → Type 0
HasEntries entries page = IsTrue page.is_whole → BeginsPageOf entries page.out.items

-- no entry was added, whatever there was before
abbrev pub KeepsEntries : Page → Page → Type 0
KeepsEntries old new = (entries : List Entry) → HasEntries entries old → HasEntries entries new

-- these entries were added, whatever there was before
abbrev pub AddsEntries : List Entry → Page → Page → Type 0
AddsEntries more old new =
    (entries : List Entry) → HasEntries entries old → HasEntries (entries ++ more) new

-- ---- the policy

-- the start of a page up to the hash of its script: it loads nothing from elsewhere (Content
-- Security Policy Level 3)
abbrev pub policy_start : List ℕ
policy_start =
    codes "<!doctype html><html lang=\"en\"><head><meta charset=\"utf-8\">"
    ++ codes "<meta http-equiv=\"Content-Security-Policy\" content=\"default-src 'none'; "
    ++ codes "style-src 'unsafe-inline'; script-src 'sha256-"

-- the byte is a character of base64 (RFC 4648, section 4)
abbrev pub is_base64 : ℕ → Bool
is_base64 b =
    (nat_le 48 b && nat_le b 57)
    || ((nat_le 65 b && nat_le b 90)
    || ((nat_le 97 b && nat_le b 122) || (nat_eq b 43 || (nat_eq b 47 || nat_eq b 61))))

-- the page begins with a policy that allows its own styles, and no script but one with this hash
abbrev pub HasPolicy : List ℕ → Type 0
HasPolicy page =
    (hash : List ℕ) × (rest : List ℕ)
    × (list_all is_base64 hash ≡ true)
    × (page ≡ policy_start ++ hash ++ codes "'\">" ++ rest)
