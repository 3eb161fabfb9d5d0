-- What stands in the submissions of tasks and in rescue lists: bios that their devices can serve, and in an order of sets.
use Rattle.std.proofs.Common.{◌≡◌, ◌+◌, ◌*◌, ◌<◌, ◌≤◌, ◌==◌, ◌++◌, if◌then◌else◌, ℕ, Bool, true, false, IsTrue, List, [], ◌∷◌, filter, Option, None, Some, refl, sym, ◌∙◌, ap, subst, arith, cond, set}
use Rattle.std.proofs.lemmas.Bool.{eq-eqb, ne_eqb}
use Rattle.stack_base.specs.declared.ids.DevId.{DevId}
use Rattle.stack_base.specs.declared.ids.Range.{Range}
use Rattle.stack_base.specs.declared.ids.SetId.{SetId}
use Rattle.stack_base.specs.declared.ids.SetId.TheVariants.{Fs, Of}
use Rattle.stack_base.specs.PoolId.{pool_number}
use Rattle.stack_base.specs.declared.stack.Kind.{Kind}
use Rattle.stack_base.specs.Tree.{Tree, Leaf, Split, Mirrored}
use Rattle.stack_base.proofs.ListLemmas.{Each}
use Rattle.bio_records.specs.declared.bio.Bio.{Bio}
use Rattle.bio_records.specs.declared.bio.Pad.{Pad}
use Rattle.bio_records.specs.declared.tasks.TaskLists.{TaskLists}
use Rattle.bio_records.specs.Items.{Item}
use Rattle.bio_records.specs.Sorting.{is_lower, is_for_device, is_of, is_of_other}
use Rattle.bio_split.specs.Split.{split_rest}
use Rattle.bioset_pools.specs.Sets.{bios_of, waits_first}
use Rattle.bio_lists.specs.Punt.{unpunted}
use Rattle.bio_books.specs.Books.{VectorItem}
use Rattle.run_machine.specs.Scene.{Setup, tree_at}
use Rattle.run_machine.specs.Submissions.{Want, Takes, WantsPunt, Links, Driving, ToPush, ToCut, ToRecord, ToMaster, Doing, Rests, Drives, Copies, Breaks, Submission, settled, goes_on, copies, asks_at, first_length, landed, legs_of, leg_at, is_cut}
use Rattle.run_machine.specs.Tasks.{TaskState, Writer, Rescuer, Completer, Keeper, Todo, Gathered, NoBio, HasBio, HasBoth, first_bio}
use Rattle.run_machine.specs.Runs.{State}
use Rattle.block_core.proofs.moves.Moves.{Wants, with_want, filled_of, cut_lists, piece}
use Rattle.block_core.proofs.moves.Geometry.{IsThere, IsCopied, Settles, Lands}
use Rattle.block_core.proofs.moves.SubmissionWeights.{landed_same}

-- each set of these is above device d
abbrev pub Above : ℕ → List (Item Pad) → Type 0
Above d items = Each (λ (item : Item Pad). 2 * d + 1 < item.share.no) items

-- each set is above the devices of those before it
abbrev pub Ordered : List (Item Pad) → Type 0
Ordered [] = Unit {0}
Ordered (item ∷ items) = Above item.bio.dev.0 items × Ordered items

-- a bio that its device can serve, of a set above its device, which is below the task's limit
abbrev pub IsPlaced : Setup → ℕ → Item Pad → Type 0
IsPlaced setup limit item =
    IsThere setup item.bio × (2 * item.bio.dev.0 + 1 < item.share.no) × (item.bio.dev.0 < limit) × (item.share.no ≡ pool_number (bios_of item.bio.set))

-- a bio of a device's own set
abbrev pub IsOwn : Setup → ℕ → ℕ → Item Pad → Type 0
IsOwn setup dev limit item = IsPlaced setup limit item × (item.share.no ≡ 2 * dev)

-- what is had for a device is of the device's pools
abbrev pub WantFits : ℕ → Want → Type 0
WantFits dev (Takes waits) = Unit {0}
WantFits dev WantsPunt = Unit {0}
WantFits dev (Links hand) = hand.share.no ≡ 2 * dev

abbrev pub AskFits : Tree → Range → ℕ → Driving → Type 0
AskFits (Leaf number sectors) range dev ToPush = Unit {0}
AskFits (Split number kind sizes members) range dev (ToCut want) = IsTrue (is_cut (Split number kind sizes members) range) × WantFits dev want
AskFits (Mirrored number sizes members) range dev ToRecord = Unit {0}
AskFits (Mirrored number sizes members) range dev (ToMaster slip) = slip.share.no ≡ 2 * dev + 1
AskFits t range dev ask = ⊥

abbrev pub DoingPlaced : Setup → ℕ → Doing → TaskLists → Type 0
DoingPlaced setup limit Rests lists = Unit {0}
DoingPlaced setup limit (Drives bio ask) lists =
    (lists.list0 ≡ []) × Each (IsPlaced setup limit) (bio ∷ lists.list1) × Ordered (bio ∷ lists.list1) × AskFits (tree_at setup bio.bio.dev) bio.bio.range bio.bio.dev.0 ask
DoingPlaced setup limit (Copies bio master leg want) lists =
    IsThere setup bio × (bio.dev.0 < limit) × Each (IsOwn setup bio.dev.0 limit) lists.list0 × Each (IsPlaced setup limit) lists.list1 × Above bio.dev.0 lists.list1
    × Ordered lists.list1 × WantFits bio.dev.0 want
DoingPlaced setup limit (Breaks breach kept) lists = Unit {0}

abbrev pub SubmissionPlaced : Setup → ℕ → Submission → Type 0
SubmissionPlaced setup limit submission = DoingPlaced setup limit submission.doing submission.lists

abbrev pub HandHome : Gathered → Type 0
HandHome NoBio = Unit {0}
HandHome (HasBio item) = item.share.no ≡ 65
HandHome (HasBoth item vector) = (item.share.no ≡ 65) × (vector.share.no ≡ 64)

-- a write that its device can serve
abbrev pub TodoThere : Setup → ℕ → Todo → Type 0
TodoThere setup writer todo = (key : ℕ) → IsThere setup (first_bio writer todo key)

abbrev pub TaskPlaced : Setup → TaskState → Type 0
TaskPlaced setup (Writer number todo taken submission) = Each (TodoThere setup number) todo × SubmissionPlaced setup 32 submission × HandHome taken
TaskPlaced setup (Rescuer dev submission) = SubmissionPlaced setup dev.0 submission
TaskPlaced setup (Completer disk carried) = Unit {0}
TaskPlaced setup (Keeper keeping) = Unit {0}

pub record Placed (setup : Setup) (s : State) : Type 0 where
  pub tasks : (place : ℕ) → TaskPlaced setup (s.task place)
  pub rescued : (dev : ℕ) → Each (IsOwn setup dev dev) (s.objects.rescue dev)

-- what is known of devices
pub record DeviceGeometry (setup : Setup) : Type 0 where
  pub few : setup.count ≤ 32
  pub lands : (bio : Bio) → IsThere setup bio → Lands setup bio (landed (tree_at setup bio.dev) bio)
  pub cut_piece : (bio hand : Item Pad) (key number : ℕ) (kind : Kind) (sizes : List ℕ) (members : ℕ → Tree) → IsThere setup bio.bio
      → tree_at setup bio.bio.dev ≡ Split number kind sizes members → IsTrue (is_cut (Split number kind sizes members) bio.bio.range)
      → IsThere setup (piece bio hand (first_length kind sizes bio.bio.range) key kind sizes members).bio
      × ((piece bio hand (first_length kind sizes bio.bio.range) key kind sizes members).bio.dev.0 < bio.bio.dev.0)
      × IsThere setup (split_rest bio (first_length kind sizes bio.bio.range)).bio
  pub leg : (bio : Bio) (hand : Item Pad) (leg key : ℕ) → IsThere setup bio → leg < legs_of (tree_at setup bio.dev)
      → IsThere setup (leg_at bio hand leg key (tree_at setup bio.dev)).bio × ((leg_at bio hand leg key (tree_at setup bio.dev)).bio.dev.0 < bio.dev.0)
      × ((leg_at bio hand leg key (tree_at setup bio.dev)).bio.set ≡ Of bio.dev) × ((leg_at bio hand leg key (tree_at setup bio.dev)).share ≡ hand.share)
  pub copied : (bio : Bio) → IsThere setup bio → IsCopied (tree_at setup bio.dev)

pub each_map : {X : Type 0} (P Q : X → Type 0) (f : (x : X) → P x → Q x) (xs : List X) → Each P xs → Each Q xs
each_map P Q f [] a = tt
each_map P Q f (x ∷ xs) a = (f x a.0, each_map P Q f xs a.1)

pub above_lower : (d e : ℕ) (items : List (Item Pad)) → e ≤ d → Above d items → Above e items
above_lower d e items le a = each_map (λ (item : Item Pad). 2 * d + 1 < item.share.no) (λ (item : Item Pad). 2 * e + 1 < item.share.no) (λ item h. omega arith) items a

-- a filtered list
pub each_filter : (P : Item Pad → Type 0) (p : Item Pad → Bool) (xs : List (Item Pad)) → Each P xs → Each (λ x. P x × (p x ≡ true)) (filter p xs)
each_filter P p [] h = tt
each_filter P p (x ∷ xs) h = elim (p x) as (λ v. p x ≡ v → Each (λ x. P x × (p x ≡ true)) (cond v (x ∷ filter p xs) (filter p xs))) [
  | true ↦ (λ q. ((h.0, q), each_filter P p xs h.1))
  | false ↦ (λ q. each_filter P p xs h.1)
] refl

pub each_less : (P : Item Pad → Type 0) (p : Item Pad → Bool) (xs : List (Item Pad)) → Each P xs → Each P (filter p xs)
each_less P p xs h = each_map (λ x. P x × (p x ≡ true)) P (λ x h. h.0) (filter p xs) (each_filter P p xs h)

ordered_less : (p : Item Pad → Bool) (xs : List (Item Pad)) → Ordered xs → Ordered (filter p xs)
ordered_less p [] h = tt
ordered_less p (x ∷ xs) h = elim (p x) as (λ v. Ordered (cond v (x ∷ filter p xs) (filter p xs))) [
  | true ↦ (each_less (λ (item : Item Pad). 2 * x.bio.dev.0 + 1 < item.share.no) p xs h.0, ordered_less p xs h.1)
  | false ↦ ordered_less p xs h.1
]

pub each_append : (P : Item Pad → Type 0) (xs ys : List (Item Pad)) → Each P xs → Each P ys → Each P (xs ++ ys)
each_append P [] ys a b = b
each_append P (x ∷ xs) ys a b = (a.0, each_append P xs ys a.1 b)

-- a bio of a device's set
pub of_set : (dev : DevId) (set : SetId) (item : Item Pad) → is_of (Of dev) (record item { bio = record item.bio { set = set } }) ≡ true → pool_number (bios_of set) ≡ 2 * dev.0
of_set dev Fs item h = absurd cc
of_set dev (Of other) item h = let e : other.0 ≡ dev.0 = search (h, arith) in omega arith

-- bios of a device's own set stand in order, before what is of its set or above
legs_ordered : (setup : Setup) (dev limit : ℕ) (l0 items : List (Item Pad)) → Each (IsOwn setup dev limit) l0 → Each (λ (item : Item Pad). 2 * dev ≤ item.share.no) items → Ordered items
    → Ordered (l0 ++ items) × Each (λ (item : Item Pad). 2 * dev ≤ item.share.no) (l0 ++ items)
legs_ordered setup dev limit [] items legs above ordered = (ordered, above)
legs_ordered setup dev limit (x ∷ l0) items legs above ordered =
    let rest = legs_ordered setup dev limit l0 items legs.1 above ordered in
    let up = legs.0.0.1 in
    let own = legs.0.1 in (
      (each_map (λ (item : Item Pad). 2 * dev ≤ item.share.no) (λ (item : Item Pad). 2 * x.bio.dev.0 + 1 < item.share.no) (λ item h. omega (arith, up, own, h)) (l0 ++ items) rest.1, rest.0),
      (omega (arith, own), rest.1),
    )

two_order : (dev : DevId) (a b : Item Pad) (list1 : List (Item Pad)) → (a.bio.dev.0 == dev.0) ≡ false → (b.bio.dev.0 == dev.0) ≡ true
    → filter (is_lower dev) (a ∷ b ∷ []) ++ (filter (is_for_device dev) (a ∷ b ∷ []) ++ list1) ≡ a ∷ b ∷ list1
two_order dev a b list1 p q = rw (p, q) refl

module _ (setup : Setup) (g : DeviceGeometry setup) where
  asks_placed : (limit : ℕ) (it : Item Pad) (lists : TaskLists) (t : Tree) → tree_at setup it.bio.dev ≡ t → Settles t it.bio.range → lists.list0 ≡ []
      → Each (IsPlaced setup limit) (it ∷ lists.list1) → Ordered (it ∷ lists.list1) → DoingPlaced setup limit (asks_at setup lists it t) lists
  asks_placed limit it lists (Leaf number sectors) same settles none placed ordered =
      (none, placed, ordered, subst (λ t. AskFits t it.bio.range it.bio.dev.0 ToPush) (sym same) tt)
  asks_placed limit it lists (Split number kind sizes members) same settles none placed ordered =
      let ask : Driving = ToCut (Takes (waits_first (setup.rescuer it.bio.dev.0) lists)) in
      let here : AskFits (Split number kind sizes members) it.bio.range it.bio.dev.0 ask = (settles, tt) in
      (none, placed, ordered, subst (λ t. AskFits t it.bio.range it.bio.dev.0 ask) (sym same) here)
  asks_placed limit it lists (Mirrored number sizes members) same settles none placed ordered =
      (none, placed, ordered, subst (λ t. AskFits t it.bio.range it.bio.dev.0 ToRecord) (sym same) tt)

  -- the first of a submission in order is served, and the others stay in order
  pub first_placed : (limit : ℕ) (items : List (Item Pad)) → Each (IsPlaced setup limit) items → Ordered items → SubmissionPlaced setup limit (settled setup items)
  first_placed limit [] placed ordered = tt
  first_placed limit (item ∷ waiting) placed ordered =
      let at : Bio = landed (tree_at setup item.bio.dev) item.bio in
      let lists : TaskLists = record { list0 = []; list1 = waiting } in
      let lands = g.lands item.bio placed.0.0 in
      let low = lands.low in
      let up = placed.0.1 in
      let below = placed.0.2 in
      let it : Item Pad = record item { bio = at } in
      let set : pool_number (bios_of at.set) ≡ pool_number (bios_of item.bio.set) = landed_same (λ (bio : Bio). pool_number (bios_of bio.set)) (λ to members bio. refl) (tree_at setup item.bio.dev) item.bio in
      let mine : IsPlaced setup limit it = (lands.there, omega arith, omega arith, placed.0.3 ∙ sym set) in
      asks_placed limit it lists (tree_at setup at.dev) refl lands.settles refl (mine, placed.1)
      (above_lower item.bio.dev.0 at.dev.0 waiting low ordered.0, ordered.1)

  -- the driver of a device has returned that submitted nothing
  pub pushed_placed : (limit : ℕ) (dev : DevId) (lists : TaskLists) → lists.list0 ≡ [] → Each (IsPlaced setup limit) lists.list1 → Ordered lists.list1 → SubmissionPlaced setup limit (goes_on setup dev lists)
  pushed_placed limit dev lists none placed ordered =
      let P : List (Item Pad) → Type 0 = λ l. SubmissionPlaced setup limit (settled setup (filter (is_lower dev) l ++ (filter (is_for_device dev) l ++ lists.list1))) in
      subst P (sym none) (first_placed limit lists.list1 placed ordered)

  -- one that submitted legs
  copied_placed : (limit : ℕ) (dev : DevId) (lists : TaskLists) → Each (IsOwn setup dev.0 limit) lists.list0 → Each (IsPlaced setup limit) lists.list1 → Above dev.0 lists.list1 → Ordered lists.list1
      → SubmissionPlaced setup limit (goes_on setup dev lists)
  copied_placed limit dev lists legs placed above ordered =
      let own : Item Pad → Type 0 = IsOwn setup dev.0 limit in
      let low = filter (is_lower dev) lists.list0 in
      let same = filter (is_for_device dev) lists.list0 in
      let legs_low = each_less own (is_lower dev) lists.list0 legs in
      let legs_same = each_less own (is_for_device dev) lists.list0 legs in
      let from : (items : List (Item Pad)) → Each own items → Each (IsPlaced setup limit) items = λ items. each_map own (IsPlaced setup limit) (λ item h. h.0) items in
      let at_least = each_map (λ (item : Item Pad). 2 * dev.0 + 1 < item.share.no) (λ (item : Item Pad). 2 * dev.0 ≤ item.share.no) (λ item h. omega arith) lists.list1 above in
      let inner = legs_ordered setup dev.0 limit same lists.list1 legs_same at_least ordered in
      let outer = legs_ordered setup dev.0 limit low (same ++ lists.list1) legs_low inner.1 inner.0 in
      first_placed limit (low ++ (same ++ lists.list1))
      (each_append (IsPlaced setup limit) low (same ++ lists.list1) (from low legs_low) (each_append (IsPlaced setup limit) same lists.list1 (from same legs_same) placed)) outer.0

  -- one that submitted a child and the rest
  pub cut_placed : (limit : ℕ) (bio : Item Pad) (lists : TaskLists) (hand : Item Pad) (number : ℕ) (kind : Kind) (sizes : List ℕ) (members : ℕ → Tree) (key : ℕ)
      → DoingPlaced setup limit (Drives bio (ToCut (Links hand))) lists → tree_at setup bio.bio.dev ≡ Split number kind sizes members
      → SubmissionPlaced setup limit (goes_on setup bio.bio.dev (cut_lists bio lists hand (first_length kind sizes bio.bio.range) key kind sizes members))
  cut_placed limit bio lists hand number kind sizes members key d same =
      let n = first_length kind sizes bio.bio.range in
      let child = piece bio hand n key kind sizes members in
      let rest = split_rest bio n in
      let suits : AskFits (Split number kind sizes members) bio.bio.range bio.bio.dev.0 (ToCut (Links hand)) = subst (λ t. AskFits t bio.bio.range bio.bio.dev.0 (ToCut (Links hand))) same d.3 in
      let cuts = g.cut_piece bio hand key number kind sizes members d.1.0.0 same suits.0 in
      let low = cuts.1 in
      let up = d.1.0.1 in
      let below = d.1.0.2 in
      let home = suits.1 in
      let other : (child.bio.dev.0 == bio.bio.dev.0) ≡ false = ne_eqb child.bio.dev.0 bio.bio.dev.0 (λ q. omega arith) in
      let own : (rest.bio.dev.0 == bio.bio.dev.0) ≡ true = eq-eqb bio.bio.dev.0 bio.bio.dev.0 refl in
      let P : List (Item Pad) → Type 0 = λ l. SubmissionPlaced setup limit (settled setup
      (filter (is_lower bio.bio.dev) ((l ++ child ∷ []) ++ rest ∷ []) ++ (filter (is_for_device bio.bio.dev) ((l ++ child ∷ []) ++ rest ∷ []) ++ lists.list1))) in
      let pc : IsPlaced setup limit child = (cuts.0, omega arith, omega arith, home) in
      let pr : IsPlaced setup limit rest = (cuts.2, up, below, d.1.0.3) in
      let submission = first_placed limit (child ∷ rest ∷ lists.list1) (pc, (pr, d.1.1))
      ((omega arith, above_lower bio.bio.dev.0 child.bio.dev.0 lists.list1 (omega arith) d.2.0), (d.2.0, d.2.1)) in
      let Q : List (Item Pad) → Type 0 = λ l. SubmissionPlaced setup limit (settled setup l) in
      subst P (sym d.0) (subst Q (sym (two_order bio.bio.dev child rest lists.list1 other own)) submission)

  -- a mirror goes on to its next leg, or has returned
  pub copies_placed : (limit : ℕ) (lists : TaskLists) (bio : Bio) (master leg : ℕ) → IsThere setup bio → bio.dev.0 < limit → Each (IsOwn setup bio.dev.0 limit) lists.list0
      → Each (IsPlaced setup limit) lists.list1 → Above bio.dev.0 lists.list1 → Ordered lists.list1 → SubmissionPlaced setup limit (copies setup lists bio master leg)
  copies_placed limit lists bio master leg there low legs placed above ordered = by_test (leg == legs_of (tree_at setup bio.dev))
    where
      by_test : (v : Bool) → SubmissionPlaced setup limit (if v then goes_on setup bio.dev lists else record { doing = Copies bio master leg (Takes (waits_first (setup.rescuer bio.dev.0) lists)); lists = lists })
      by_test true = copied_placed limit bio.dev lists legs placed above ordered
      by_test false = (there, low, legs, placed, above, ordered, tt)

  -- a write's bio at its device
  pub begun_placed : (writer : ℕ) (todo : Todo) (item : Item Pad) (vector : Option VectorItem) (key : ℕ) → TodoThere setup writer todo → item.share.no ≡ 65
      → SubmissionPlaced setup 32 (settled setup (filled_of writer todo item vector key ∷ []))
  begun_placed writer todo item None key fits home =
      let there = fits key in let dev = there.device in let few = g.few in
      first_placed 32 (filled_of writer todo item None key ∷ []) ((there, omega arith, omega arith, home), tt) (tt, tt)
  begun_placed writer todo item (Some vector) key fits home =
      let there = fits key in let dev = there.device in let few = g.few in
      first_placed 32 (filled_of writer todo item (Some vector) key ∷ []) ((there, omega arith, omega arith, home), tt) (tt, tt)

  -- something else is wanted, and the lists lose some
  pub wants_placed : (limit : ℕ) (doing : Doing) (dev : DevId) (old new : Want) (lists : TaskLists) → Wants doing dev old → WantFits dev.0 new → DoingPlaced setup limit doing lists
      → DoingPlaced setup limit (with_want doing new) lists
  wants_placed limit (Drives bio (ToCut has)) dev old new lists h fits d = (d.0, d.1, d.2, by_tree (tree_at setup bio.bio.dev) d.3)
    where
      by_tree : (t : Tree) → AskFits t bio.bio.range bio.bio.dev.0 (ToCut has) → AskFits t bio.bio.range bio.bio.dev.0 (ToCut new)
      by_tree (Leaf number sectors) a = a
      by_tree (Split number kind sizes members) a = (a.0, subst (λ (e : DevId). WantFits e.0 new) h.0 fits)
      by_tree (Mirrored number sizes members) a = a
  wants_placed limit (Copies bio master leg has) dev old new lists h fits d = (d.0, d.1, d.2, d.3, d.4, d.5, subst (λ (e : DevId). WantFits e.0 new) h.0 fits)
  wants_placed limit (Drives bio ToPush) dev old new lists h fits d = absurd h
  wants_placed limit (Drives bio ToRecord) dev old new lists h fits d = absurd h
  wants_placed limit (Drives bio (ToMaster slip)) dev old new lists h fits d = absurd h
  wants_placed limit Rests dev old new lists h fits d = absurd h
  wants_placed limit (Breaks breach kept) dev old new lists h fits d = absurd h

  pub punts_placed : (limit : ℕ) (doing : Doing) (dev set : DevId) (want : Want) (lists : TaskLists) → Wants doing dev want → DoingPlaced setup limit doing lists → DoingPlaced setup limit doing (unpunted (Of set) lists)
  punts_placed limit (Drives bio (ToCut has)) dev set want lists h d =
      let stays : Item Pad → Bool = is_of_other (Of set) in (
        ap (filter stays) d.0,
        (d.1.0, each_less (IsPlaced setup limit) stays lists.list1 d.1.1),
        (each_less (λ (item : Item Pad). 2 * bio.bio.dev.0 + 1 < item.share.no) stays lists.list1 d.2.0, ordered_less stays lists.list1 d.2.1),
        d.3,
      )
  punts_placed limit (Copies bio master leg has) dev set want lists h d =
      let stays : Item Pad → Bool = is_of_other (Of set) in (
        d.0,
        d.1,
        each_less (IsOwn setup bio.dev.0 limit) stays lists.list0 d.2,
        each_less (IsPlaced setup limit) stays lists.list1 d.3,
        each_less (λ (item : Item Pad). 2 * bio.dev.0 + 1 < item.share.no) stays lists.list1 d.4,
        ordered_less stays lists.list1 d.5,
        d.6,
      )
  punts_placed limit (Drives bio ToPush) dev set want lists h d = absurd h
  punts_placed limit (Drives bio ToRecord) dev set want lists h d = absurd h
  punts_placed limit (Drives bio (ToMaster slip)) dev set want lists h d = absurd h
  punts_placed limit Rests dev set want lists h d = absurd h
  punts_placed limit (Breaks breach kept) dev set want lists h d = absurd h

  -- what waits in the lists of one that wants something
  pub waiting_placed : (limit : ℕ) (doing : Doing) (dev : DevId) (want : Want) (lists : TaskLists) → Wants doing dev want → DoingPlaced setup limit doing lists
      → Each (IsPlaced setup limit) lists.list0 × Each (IsPlaced setup limit) lists.list1
  waiting_placed limit (Drives bio (ToCut has)) dev want lists h d = (subst (Each (IsPlaced setup limit)) (sym d.0) tt, d.1.1)
  waiting_placed limit (Copies bio master leg has) dev want lists h d =
      (each_map (IsOwn setup bio.dev.0 limit) (IsPlaced setup limit) (λ item own. own.0) lists.list0 d.2, d.3)
  waiting_placed limit (Drives bio ToPush) dev want lists h d = absurd h
  waiting_placed limit (Drives bio ToRecord) dev want lists h d = absurd h
  waiting_placed limit (Drives bio (ToMaster slip)) dev want lists h d = absurd h
  waiting_placed limit Rests dev want lists h d = absurd h
  waiting_placed limit (Breaks breach kept) dev want lists h d = absurd h
