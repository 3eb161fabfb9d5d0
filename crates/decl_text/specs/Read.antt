-- What was read of a text's declarations.
use Rattle.std.specs.Prelude.{◌≡◌, ◌≢◌, ◌≤◌, ℕ, Bool, false, IsTrue, List, [], Option, All}
use Rattle.decl_text.specs.declared.reason.Refusal.{Refusal}
use Rattle.decl_text.specs.declared.decl.Numbered.{Numbered}
use Rattle.decl_text.specs.Text.{is_name}
use Rattle.stack_base.specs.declared.ids.Status.TheVariants as status
use Rattle.decl_text.specs.declared.item.What.{What}
use Rattle.decl_text.specs.declared.item.What.TheVariants as what
use Rattle.decl_text.specs.declared.item.Item.{Item}
use Rattle.decl_text.specs.declared.item.Item.TheVariants as item

-- what its lines say up to the first that is wrong by itself, why that is wrong, and where the rest begins, in bytes and in lines
pub record Read : Type 0 where
  pub items : List Numbered
  pub fault : Option Refusal
  pub rest : ℕ
  pub line : ℕ

-- a disk stands by itself, without a pool; and the numbers of pieces are not 0
abbrev pub IsFormed : What → List (List ℕ) → ℕ → Bool → Type 0
IsFormed (what.Disk sectors) members reserve rescuer = (members ≡ []) × (reserve ≡ 0) × (rescuer ≡ false)
IsFormed what.Linear members reserve rescuer = Unit {0}
IsFormed (what.Stripe chunk) members reserve rescuer = 1 ≤ chunk
IsFormed (what.Zoned chunk) members reserve rescuer = 1 ≤ chunk
IsFormed (what.Limit longest chunk) members reserve rescuer = 1 ≤ longest
IsFormed (what.Mirror records) members reserve rescuer = Unit {0}

-- anything but a write, a `sync` or a `resize` line, as a line of the right form says it
abbrev pub IsDeclaration : Item → Type 0
IsDeclaration (item.Write task dev range tag) = ⊥
IsDeclaration item.Sync = ⊥
IsDeclaration (item.Resize pool min) = ⊥
IsDeclaration (item.Bad disk range kind) = (1 ≤ range.len) × (kind ≢ status.Ok)
IsDeclaration (item.Device name does members reserve rescuer) = IsTrue (is_name name) × IsFormed does members reserve rescuer
IsDeclaration _ = Unit {0}

abbrev pub AreDeclarations : List Numbered → Type 0
AreDeclarations items = All (λ (next : Numbered). IsDeclaration next.item) items
