-- The first words of lines.
use Rattle.std.specs.Prelude.{List, [], ◌∷◌, ℕ, codes, Option}
use Rattle.std.specs.Prelude.{find}
use Rattle.std.specs.Str.{bytes_eq}
use Rattle.decl_text.specs.declared.command.Command.{Command}
use Rattle.decl_text.specs.declared.command.Command.TheVariants.{Disk, Bad, Linear, Stripe, Zoned, Limit, Mirror, Fs, Script, Memory, Write, Sync, Resize}

abbrev pub word_of : Command → List ℕ
word_of Disk = codes "disk"
word_of Bad = codes "bad"
word_of Linear = codes "linear"
word_of Stripe = codes "stripe"
word_of Zoned = codes "zoned"
word_of Limit = codes "limit"
word_of Mirror = codes "mirror"
word_of Fs = codes "fs"
word_of Script = codes "script"
word_of Memory = codes "memory"
word_of Write = codes "write"
word_of Sync = codes "sync"
word_of Resize = codes "resize"

abbrev pub all_commands : List Command
all_commands = Disk ∷ Bad ∷ Linear ∷ Stripe ∷ Zoned ∷ Limit ∷ Mirror ∷ Fs ∷ Script ∷ Memory ∷ Write ∷ Sync ∷ Resize ∷ []

-- the command with this word
unfoldable pub command_of : List ℕ → Option Command
command_of word = find (λ command. bytes_eq (word_of command) word) all_commands
