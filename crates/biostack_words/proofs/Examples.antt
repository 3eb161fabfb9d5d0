-- The grammar on words that are written out.
use Rattle.std.proofs.Common.{◌≡◌, [], ◌∷◌, codes, refl, true, false, Some, None}
use Rattle.biostack_words.specs.Grammar.{order_meant, settings_from}
use Rattle.biostack_words.specs.Numbers.{number_of}
use Rattle.biostack_words.specs.declared.order.Order.TheVariants.{Run, Workers, Gen, Scrub}

run_alone : order_meant (codes "run" ∷ []) ≡ Some (Run 0 false)
unfolding settings_from
run_alone = refl

seed_in_one_word : order_meant (codes "run" ∷ codes "--seed=5" ∷ codes "--trace" ∷ []) ≡ Some (Run 5 true)
unfolding settings_from number_of
seed_in_one_word = refl

seed_in_two_words : order_meant (codes "run" ∷ codes "--trace" ∷ codes "--seed" ∷ codes "5" ∷ []) ≡ Some (Run 5 true)
unfolding settings_from number_of
seed_in_two_words = refl

two_workers : order_meant (codes "run" ∷ codes "--workers=02" ∷ []) ≡ Some (Workers 2 false)
unfolding settings_from number_of
two_workers = refl

text_first : order_meant (codes "gen" ∷ codes "--text" ∷ codes "7" ∷ []) ≡ Some (Gen 7 true)
unfolding settings_from number_of
text_first = refl

no_words : order_meant [] ≡ None
no_words = refl

empty_value : order_meant (codes "run" ∷ codes "--seed=" ∷ []) ≡ None
unfolding settings_from number_of
empty_value = refl

negative : order_meant (codes "run" ∷ codes "--seed" ∷ codes "-1" ∷ []) ≡ None
unfolding settings_from number_of
negative = refl

negative_in_one_word : order_meant (codes "run" ∷ codes "--seed=-1" ∷ []) ≡ None
unfolding settings_from number_of
negative_in_one_word = refl

too_many_workers : order_meant (codes "run" ∷ codes "--workers" ∷ codes "17" ∷ []) ≡ None
unfolding settings_from number_of
too_many_workers = refl

both_ways : order_meant (codes "run" ∷ codes "--seed" ∷ codes "1" ∷ codes "--workers" ∷ codes "2" ∷ []) ≡ None
unfolding settings_from number_of
both_ways = refl

traced_twice : order_meant (codes "run" ∷ codes "--trace" ∷ codes "--trace" ∷ []) ≡ None
unfolding settings_from number_of
traced_twice = refl

shortened : order_meant (codes "run" ∷ codes "--tra" ∷ []) ≡ None
unfolding settings_from number_of
shortened = refl

two_dashes : order_meant (codes "run" ∷ codes "--" ∷ []) ≡ None
unfolding settings_from number_of
two_dashes = refl

help : order_meant (codes "--help" ∷ []) ≡ None
help = refl

help_behind : order_meant (codes "run" ∷ codes "--help" ∷ []) ≡ None
unfolding settings_from number_of
help_behind = refl

scrub_of_number : order_meant (codes "scrub" ∷ codes "--seed=3" ∷ []) ≡ Some (Scrub 3)
unfolding settings_from number_of
scrub_of_number = refl

check_traced : order_meant (codes "check" ∷ codes "--trace" ∷ []) ≡ None
unfolding settings_from number_of
check_traced = refl
