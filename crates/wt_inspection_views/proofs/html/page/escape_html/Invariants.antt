use Rattle.std.proofs.Common.{◌≡◌, take}
use Rattle.wt_inspection_views.specs.Html.{html_text}
use Rattle.wt_inspection_views.proofs.html.page.escape_html.Given as goal

abbrev pub invariant-loop-byte : goal.invariant-loop-byte
invariant-loop-byte l = l.escaped.items ≡ html_text (take l.byte-index l.text)
