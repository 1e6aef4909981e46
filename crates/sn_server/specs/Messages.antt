-- How serving a message that was read ends.
use Rattle.std.specs.Prelude.{◌≡◌, ℕ, List, []}
use Rattle.std.specs.declared.option.Option.{Option}
use Rattle.std.specs.Io.KnownBytes.{Appends}
use Rattle.sn_io.specs.Causes.{Rose}
use Rattle.sn_io.specs.Streams.{Gains, TakesPart}
use Rattle.sn_http.specs.declared.message.Message.{Message}
use Rattle.sn_rows.specs.declared.change.Change.{Change}
use Rattle.sn_server.specs.Replies.{Replies, RepliesByRule, reply_bytes}
use Rattle.sn_server.specs.Stores.{Kept, after}
use Rattle.sn_server.specs.declared.reply.Reply.{Reply}
use Rattle.sn_server.specs.declared.serving.Ended.TheVariants.{End, Broken, Budget, ReadFault, WriteFault, Memory}
use Rattle.sn_server.specs.declared.serving.One.{One}
use Rattle.sn_server.specs.declared.serving.One.TheVariants.{Served, Checked, Over, Lost}

module _ {S D : Type 0} (is_open : S → Kept → Type 0) (may_have : D → Kept → List Change → Type 0) (kept : Kept) (message : Message) where
  abbrev pub MessageEnds : Option (List ℕ) → Option (List ℕ) → Option (List ℕ) → Option (List ℕ) → ℕ → ℕ → One S D → Type 0
  MessageEnds held now_held given now_given writes now_writes (Served server closing) = (now : ℕ) × (made : List Change) × (reply : Reply)
      × Replies kept.rows message now made reply × is_open server (after kept made) × Appends held now_held (reply_bytes reply) × Gains given now_given now × (closing ≡ message.closing)
  MessageEnds held now_held given now_given writes now_writes (Checked server place) = ⊥
  MessageEnds held now_held given now_given writes now_writes (Over server End) = ⊥
  MessageEnds held now_held given now_given writes now_writes (Over server (Broken place)) = ⊥
  MessageEnds held now_held given now_given writes now_writes (Over server Budget) = ⊥
  MessageEnds held now_held given now_given writes now_writes (Over server ReadFault) = ⊥
  MessageEnds held now_held given now_given writes now_writes (Over server Memory) = ⊥
  MessageEnds held now_held given now_given writes now_writes (Over server WriteFault) = Rose writes now_writes × ((now : ℕ) × (made : List Change) × (reply : Reply)
      × Replies kept.rows message now made reply × is_open server (after kept made) × TakesPart held now_held (reply_bytes reply) × Gains given now_given now)
  MessageEnds held now_held given now_given writes now_writes (Lost disk) = (now : ℕ) × (made : List Change) × (reply : Reply)
      × RepliesByRule kept.rows message now made reply × may_have disk kept made × Appends held now_held [] × Gains given now_given now
