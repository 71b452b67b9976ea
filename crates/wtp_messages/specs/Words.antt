-- The states of messages in numbers of a fixed size, as a caller in C keeps them: a number for each
-- variant, from 0 on.
use Rattle.std.specs.Prelude.{ℕ, ◌+◌, ◌-◌, ◌==◌, if◌then◌else◌, true, false, Option, Some, None}
use Rattle.wtp_messages.specs.declared.message.Message.{Message}
use Rattle.wtp_messages.specs.declared.message.Role.{Role}
use Rattle.wtp_messages.specs.declared.message.Role.TheVariants.{Request, Response}
use Rattle.wtp_messages.specs.declared.message.Stage.{Stage}
use Rattle.wtp_messages.specs.declared.message.Stage.TheVariants as stage
use Rattle.wtp_messages.specs.declared.message.words.MessageWords.{MessageWords}
use Rattle.wtp_messages.specs.declared.response.Asked.{Asked}
use Rattle.wtp_messages.specs.declared.response.Asked.TheVariants as asked
use Rattle.wtp_messages.specs.Content.{content_of}

-- ---- the words of a state

abbrev pub asked_number : Asked → ℕ
asked_number asked.Head = 0
asked_number asked.Connect = 1
asked_number asked.Session = 2
asked_number asked.Other = 3

abbrev pub role_number : Role → ℕ
role_number (Request false) = 0
role_number (Request true) = 1
role_number (Response asked.Head) = 2
role_number (Response asked.Connect) = 3
role_number (Response asked.Session) = 4
role_number (Response asked.Other) = 5

abbrev pub stage_number : Stage → ℕ
stage_number stage.Head = 0
stage_number stage.Body = 1
stage_number stage.End = 2

-- with the content that is still to come
abbrev pub words_with : Option ℕ → ℕ → ℕ → MessageWords
words_with (Some n) r s = record { left = n; announced = 1; role = r; stage = s }
words_with None r s = record { left = 0; announced = 0; role = r; stage = s }

abbrev pub message_words : Message → MessageWords
message_words m = words_with m.content.left (role_number m.role) (stage_number m.stage)

-- where there is no message
abbrev pub no_message : MessageWords
no_message = record { left = 0; announced = 0; role = 0; stage = 0 }

-- ---- the state of words, if they are those of one

abbrev pub asked_at : ℕ → Asked
asked_at n =
    if n == 0 then asked.Head
    else (if n == 1 then asked.Connect else (if n == 2 then asked.Session else asked.Other))

abbrev pub role_at : ℕ → Role
role_at n =
    if n == 0 then Request false
    else (if n == 1 then Request true else Response (asked_at (n - 2)))

abbrev pub stage_at : ℕ → Stage
stage_at n = if n == 0 then stage.Head else (if n == 1 then stage.Body else stage.End)

abbrev pub announced_at : ℕ → ℕ → Option ℕ
announced_at announced n = if announced == 0 then None else Some n

abbrev pub message_at : MessageWords → Message
message_at w = record {
  role = role_at w.role;
  stage = stage_at w.stage;
  content = content_of (announced_at w.announced w.left);
}
