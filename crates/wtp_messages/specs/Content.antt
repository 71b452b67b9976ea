-- The content of a message: the bytes of its DATA frames (RFC 9114, section 4.1.2).
use Rattle.std.specs.Prelude.{ℕ, ◌-◌, ◌==◌, nat_le, Bool, true, if◌then◌else◌, Option, Some, None}
use Rattle.std.specs.Prelude.{Result, Ok, Err, ⊤}
use Rattle.wtp_messages.specs.declared.content.Content.{Content}
use Rattle.wtp_messages.specs.declared.malformed.Malformed.{Malformed}
use Rattle.wtp_messages.specs.declared.malformed.Malformed.TheVariants.{ContentTooShort}

-- the content of a message that announced this length, or none
abbrev pub content_of : Option ℕ → Content
content_of announced = record { left = announced }

-- so many bytes more are not above what is left; if no length was announced, any number may come
abbrev pub fits : Option ℕ → ℕ → Bool
fits None len = true
fits (Some left) len = nat_le len left

-- what is left after so many bytes more
abbrev pub left_after : Option ℕ → ℕ → Option ℕ
left_after None len = None
left_after (Some left) len = Some (left - len)

-- the result of ending the content here: nothing is left of the announced length, or none was
-- announced
abbrev pub complete : Option ℕ → Result ⊤ Malformed
complete None = Ok tt
complete (Some left) = if left == 0 then Ok tt else Err ContentTooShort
