-- How a script is made, event by event: what is kept of the puts so far, and what each event does.
use Rattle.std.specs.Prelude.{ℕ, ◌+◌, ◌==◌, [], ◌∷◌, nat_le, if◌then◌else◌, Option, Some, None}
use Rattle.sn_script.specs.declared.script.Fate.TheVariants as fate
use Rattle.sn_script.specs.declared.script.Line.{Line}
use Rattle.sn_script.specs.declared.script.Line.TheVariants as line
use Rattle.sn_script.specs.declared.script.Ordinal.TheVariants as ordinal
use Rattle.sn_generator.specs.Generated.{content_of, kind_of, name_of, side_of}
use Rattle.sn_generator.specs.declared.puts.Act.{Act}
use Rattle.sn_generator.specs.declared.puts.Act.TheVariants as act
use Rattle.sn_generator.specs.declared.puts.Puts.{Puts}

-- the label of the last put of the device whose event draws x
abbrev pub last_label : Puts → ℕ → Option ℕ
last_label puts x = if side_of x == 0 then puts.of_a else puts.of_b

-- with one put more, of that device
abbrev pub with_put : Puts → ℕ → Puts
with_put puts x =
    if side_of x == 0 then record { made = puts.made + 1; of_a = Some (puts.made + 1); of_b = puts.of_b }
    else record { made = puts.made + 1; of_a = puts.of_a; of_b = Some (puts.made + 1) }

-- an edit of the last put, or a put where there is none
abbrev pub writing : Option ℕ → Act
writing None = act.Put
writing (Some label) = act.Edit label

-- what the event that draws x does
abbrev pub act_of : Puts → ℕ → Act
act_of puts x =
    if nat_le (kind_of x) 3 then act.Put
    else if kind_of x == 4 then writing (last_label puts x)
    else if kind_of x == 7 then act.LosingSync
    else act.Sync

-- its line
abbrev pub line_of : Act → ℕ → ℕ → Line
line_of act.Put x i = line.Put (name_of (side_of x)) [] (content_of i)
line_of (act.Edit label) x i = line.Edit (name_of (side_of x)) (ordinal.Nth label) [] (content_of i)
line_of act.Sync x i = line.Sync (name_of (side_of x)) []
line_of act.LosingSync x i = line.Sync (name_of (side_of x)) (fate.DropReply (ordinal.Nth 1) ∷ [])

-- the puts after it
abbrev pub puts_after : Act → Puts → ℕ → Puts
puts_after act.Put puts x = with_put puts x
puts_after (act.Edit label) puts x = puts
puts_after act.Sync puts x = puts
puts_after act.LosingSync puts x = puts
