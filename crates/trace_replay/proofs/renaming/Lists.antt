-- Lists of bios are sorted, and submissions go on, without a look at the nodes that bios name.
use Rattle.std.proofs.Common.{◌≡◌, ◌==◌, ◌&&◌, ◌||◌, ◌++◌, if◌then◌else◌, not, ℕ, Bool, true, false, List, [], ◌∷◌, filter, refl, sym, ◌∙◌, ap}
use Rattle.std.specs.Prelude.{map}
use Rattle.std.proofs.lemmas.List.{map-append}
use Rattle.stack_base.specs.declared.ids.DevId.{DevId}
use Rattle.stack_base.specs.Mapping.{slot}
use Rattle.stack_base.specs.Tree.{Tree, Leaf, Split, Mirrored}
use Rattle.stack_base.specs.declared.ids.SetId.TheVariants.{Of}
use Rattle.bio_records.specs.declared.bio.Bio.{Bio}
use Rattle.bio_records.specs.declared.bio.Pad.{Pad}
use Rattle.bio_records.specs.declared.tasks.TaskLists.{TaskLists}
use Rattle.bio_records.specs.Items.{Item}
use Rattle.bio_records.specs.Sorting.{is_lower, is_for_device, is_of, is_of_other}
use Rattle.bio_lists.specs.Submission.{submitted, order}
use Rattle.bio_lists.specs.Punt.{punted, unpunted}
use Rattle.run_machine.specs.Scene.{Setup, tree_at}
use Rattle.bioset_pools.specs.Sets.{is_empty, waits_first}
use Rattle.run_machine.specs.Submissions.{Takes, ToCut, Drives, Copies, first_length, mapped, landed, asks_at, landed_doing, settled, goes_on, legs_of, copies}
use Rattle.trace_replay.proofs.renaming.Renaming.{Places, share_to, bio_to, item_to, lists_to, doing_to, submission_to}

-- a filter that does not see what a map changes
kept_by : {X : Type 0} (p : X → Bool) (f : X → X) (x : X) (xs : List X) (test : Bool) → filter p (map f xs) ≡ map f (filter p xs)
    → (if test then f x ∷ filter p (map f xs) else filter p (map f xs)) ≡ map f (if test then x ∷ filter p xs else filter p xs)
kept_by p f x xs true rest = ap (λ l. f x ∷ l) rest
kept_by p f x xs false rest = rest

pub filter_map : {X : Type 0} (p : X → Bool) (f : X → X) → ((x : X) → p (f x) ≡ p x) → (xs : List X) → filter p (map f xs) ≡ map f (filter p xs)
filter_map p f blind [] = refl
filter_map p f blind (x ∷ xs) =
    ap (λ test. if test then f x ∷ filter p (map f xs) else filter p (map f xs)) (blind x) ∙ kept_by p f x xs (p x) (filter_map p f blind xs)

module _ (to : Places) where
  abbrev all : List (Item Pad) → List (Item Pad)
  all = map (item_to to)

  pub order_to : (dev : DevId) (lists : TaskLists) → order dev (lists_to to lists) ≡ all (order dev lists)
  order_to dev lists =
      let low = filter_map (is_lower dev) (item_to to) (λ x. refl) lists.list0 in
      let same = filter_map (is_for_device dev) (item_to to) (λ x. refl) lists.list0 in
      ap (λ l. l ++ (filter (is_for_device dev) (all lists.list0) ++ all lists.list1)) low
      ∙ ap (λ l. all (filter (is_lower dev) lists.list0) ++ (l ++ all lists.list1)) same
      ∙ ap (λ l. all (filter (is_lower dev) lists.list0) ++ l) (sym (map-append (item_to to) (filter (is_for_device dev) lists.list0) lists.list1))
      ∙ sym (map-append (item_to to) (filter (is_lower dev) lists.list0) (filter (is_for_device dev) lists.list0 ++ lists.list1))

  pub punted_to : (dev : DevId) (lists : TaskLists) → punted (Of dev) (lists_to to lists) ≡ all (punted (Of dev) lists)
  punted_to dev lists =
      let first = filter_map (is_of (Of dev)) (item_to to) (λ x. refl) lists.list0 in
      let second = filter_map (is_of (Of dev)) (item_to to) (λ x. refl) lists.list1 in
      ap (λ l. l ++ filter (is_of (Of dev)) (all lists.list1)) first
      ∙ ap (λ l. all (filter (is_of (Of dev)) lists.list0) ++ l) second
      ∙ sym (map-append (item_to to) (filter (is_of (Of dev)) lists.list0) (filter (is_of (Of dev)) lists.list1))

  pub unpunted_to : (dev : DevId) (lists : TaskLists) → unpunted (Of dev) (lists_to to lists) ≡ lists_to to (unpunted (Of dev) lists)
  unpunted_to dev lists =
      let p : Item Pad → Bool = is_of_other (Of dev) in
      let first = filter_map p (item_to to) (λ x. refl) lists.list0 in
      let second = filter_map p (item_to to) (λ x. refl) lists.list1 in
      λ k. record { list0 = first k; list1 = second k }

  pub submitted_to : (item : Item Pad) (lists : TaskLists) → submitted (item_to to item) (lists_to to lists) ≡ lists_to to (submitted item lists)
  submitted_to item lists = ap (λ l. record { list0 = l; list1 = all lists.list1 }) (sym (map-append (item_to to) lists.list0 (item ∷ [])))

  empty_to : (items : List (Item Pad)) → is_empty (all items) ≡ is_empty items
  empty_to [] = refl
  empty_to (item ∷ items) = refl

  pub waits_to : (setup : Setup) (dev : DevId) (lists : TaskLists) → waits_first (setup.rescuer dev.0) (lists_to to lists) ≡ waits_first (setup.rescuer dev.0) lists
  waits_to setup dev lists =
      ap (λ e. not (setup.rescuer dev.0) || (e && is_empty (all lists.list1))) (empty_to lists.list0)
      ∙ ap (λ e. not (setup.rescuer dev.0) || (is_empty lists.list0 && e)) (empty_to lists.list1)

  -- where a bio lands goes by its sectors
  lands_by : (test : Bool) (bio next : Bio) → (if test then bio_to to next else bio_to to bio) ≡ bio_to to (if test then next else bio)
  lands_by true bio next = refl
  lands_by false bio next = refl

  pub landed_to : (tree : Tree) (bio : Bio) → landed tree (bio_to to bio) ≡ bio_to to (landed tree bio)
  landed_to (Leaf number sectors) bio = refl
  landed_to (Mirrored number sizes members) bio = refl
  landed_to (Split number kind sizes members) bio =
      let test = first_length kind sizes bio.range == bio.range.len in
      let place = slot kind sizes bio.range.start in
      let next = mapped place members bio in
      ap (λ b. if test then b else bio_to to bio) (landed_to (members place.member) next) ∙ lands_by test bio (landed (members place.member) next)

  asks_to : (setup : Setup) (lists : TaskLists) (item : Item Pad) (gone : ℕ) (tree : Tree)
      → asks_at setup (lists_to to lists) (item_to to item) tree ≡ doing_to to gone (asks_at setup lists item tree)
  asks_to setup lists item gone (Leaf number sectors) = refl
  asks_to setup lists item gone (Mirrored number sizes members) = refl
  asks_to setup lists item gone (Split number kind sizes members) = ap (λ waits. Drives (item_to to item) (ToCut (Takes waits))) (waits_to setup item.bio.dev lists)

  landed_doing_to : (setup : Setup) (lists : TaskLists) (item : Item Pad) (gone : ℕ) → landed_doing setup (lists_to to lists) (item_to to item) ≡ doing_to to gone (landed_doing setup lists item)
  landed_doing_to setup lists item gone =
      let at = landed (tree_at setup item.bio.dev) item.bio in
      ap (λ b. asks_at setup (lists_to to lists) (record item { bio = b; share = share_to item.share }) (tree_at setup b.dev)) (landed_to (tree_at setup item.bio.dev) item.bio)
      ∙ asks_to setup lists (record item { bio = at }) gone (tree_at setup at.dev)

  pub settled_to : (setup : Setup) (gone : ℕ) (items : List (Item Pad)) → settled setup (all items) ≡ submission_to to gone (settled setup items)
  settled_to setup gone [] = refl
  settled_to setup gone (item ∷ waiting) =
      let lists : TaskLists = record { list0 = []; list1 = waiting } in
      ap (λ doing. record { doing = doing; lists = lists_to to lists }) (landed_doing_to setup lists item gone)

  pub goes_to : (setup : Setup) (gone : ℕ) (dev : DevId) (lists : TaskLists) → goes_on setup dev (lists_to to lists) ≡ submission_to to gone (goes_on setup dev lists)
  goes_to setup gone dev lists = ap (settled setup) (order_to dev lists) ∙ settled_to setup gone (order dev lists)

  copies_by : (setup : Setup) (gone : ℕ) (lists : TaskLists) (bio : Bio) (master leg : ℕ) (test : Bool)
      → (if test then goes_on setup bio.dev (lists_to to lists)
      else record { doing = Copies (record bio { node = gone }) (to bio.writer master) leg (Takes (waits_first (setup.rescuer bio.dev.0) (lists_to to lists))); lists = lists_to to lists })
      ≡ submission_to to gone (if test then goes_on setup bio.dev lists else record { doing = Copies bio master leg (Takes (waits_first (setup.rescuer bio.dev.0) lists)); lists = lists })
  copies_by setup gone lists bio master leg true = goes_to setup gone bio.dev lists
  copies_by setup gone lists bio master leg false =
      ap (λ waits. record { doing = Copies (record bio { node = gone }) (to bio.writer master) leg (Takes waits); lists = lists_to to lists }) (waits_to setup bio.dev lists)

  pub copies_to : (setup : Setup) (gone : ℕ) (lists : TaskLists) (bio : Bio) (master leg : ℕ)
      → copies setup (lists_to to lists) (record bio { node = gone }) (to bio.writer master) leg ≡ submission_to to gone (copies setup lists bio master leg)
  copies_to setup gone lists bio master leg = copies_by setup gone lists bio master leg (leg == legs_of (tree_at setup bio.dev))
