-- The words of a state are read as that state.
use Rattle.std.proofs.Common.{◌≡◌, ℕ, true, false, Option, Some, None, refl}
use Rattle.wtp_messages.specs.declared.message.Message.{Message}
use Rattle.wtp_messages.specs.declared.message.Role.{Role}
use Rattle.wtp_messages.specs.declared.message.Role.TheVariants.{Request, Response}
use Rattle.wtp_messages.specs.declared.message.Stage.{Stage}
use Rattle.wtp_messages.specs.declared.message.Stage.TheVariants as stage
use Rattle.wtp_messages.specs.declared.response.Asked.{Asked}
use Rattle.wtp_messages.specs.declared.response.Asked.TheVariants as asked
use Rattle.wtp_messages.specs.Content.{content_of}
use Rattle.wtp_messages.specs.Words.{asked_number, asked_at, role_number, role_at, stage_number, stage_at, words_with, message_words, message_at}

pub asked_is : (a : Asked) → asked_at (asked_number a) ≡ a
asked_is asked.Head = refl
asked_is asked.Connect = refl
asked_is asked.Session = refl
asked_is asked.Other = refl

role_is : (r : Role) → role_at (role_number r) ≡ r
role_is (Request false) = refl
role_is (Request true) = refl
role_is (Response asked.Head) = refl
role_is (Response asked.Connect) = refl
role_is (Response asked.Session) = refl
role_is (Response asked.Other) = refl

stage_is : (s : Stage) → stage_at (stage_number s) ≡ s
stage_is stage.Head = refl
stage_is stage.Body = refl
stage_is stage.End = refl

words_are : (o : Option ℕ) (r : Role) (s : Stage) → message_at (words_with o (role_number r) (stage_number s)) ≡ record { role = r; stage = s; content = content_of o }
words_are (Some n) r s = rw (role_is r, stage_is s) refl
words_are None r s = rw (role_is r, stage_is s) refl

pub message_is_read : (m : Message) → message_at (message_words m) ≡ m
message_is_read m = words_are m.content.left m.role m.stage
