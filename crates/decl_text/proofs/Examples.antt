-- The definitions on texts, computed.
use Rattle.std.specs.Prelude.{◌≡◌, codes, refl, Some, None}
use Rattle.decl_text.specs.Text.{IsCutLine, lines}
use Rattle.decl_text.specs.Known.{nothing_declared}
use Rattle.decl_text.specs.Refusals.{refusal, item_checks}

cut_once : IsCutLine (codes "disk a 64") (codes "disk") (Some (codes "a 64")) (λ rest. rest)
cut_once = refl

a_write_inside : refusal item_checks nothing_declared 1 (lines (codes "disk a 64\nwrite 0 a 0 1 0")) ≡ None
unfolding refusal Rattle.decl_text.specs.Text.without_empty_end Rattle.decl_text.specs.Refusals.first_found Rattle.decl_text.specs.Commands.command_of Rattle.decl_text.specs.Text.is_name Rattle.decl_text.specs.Text.number_of Rattle.decl_text.specs.Items.meaning Rattle.decl_text.specs.Known.declared_pool Rattle.stack_base.specs.Tree.over_shape Rattle.stack_base.specs.Mapping.size_of Rattle.stack_base.specs.Mapping.smallest
a_write_inside = refl

no_device : refusal item_checks nothing_declared 1 (lines (codes "")) ≡ None
unfolding refusal Rattle.decl_text.specs.Text.without_empty_end Rattle.decl_text.specs.Refusals.first_found Rattle.decl_text.specs.Commands.command_of Rattle.decl_text.specs.Text.is_name Rattle.decl_text.specs.Text.number_of Rattle.decl_text.specs.Items.meaning Rattle.decl_text.specs.Known.declared_pool Rattle.stack_base.specs.Tree.over_shape Rattle.stack_base.specs.Mapping.size_of Rattle.stack_base.specs.Mapping.smallest
no_device = refl

past_the_end : refusal item_checks nothing_declared 1 (lines (codes "disk a 64\nwrite 0 a 64 1 5")) ≡ Some (record { number = 12; line = 2 })
unfolding refusal Rattle.decl_text.specs.Text.without_empty_end Rattle.decl_text.specs.Refusals.first_found Rattle.decl_text.specs.Commands.command_of Rattle.decl_text.specs.Text.is_name Rattle.decl_text.specs.Text.number_of Rattle.decl_text.specs.Items.meaning Rattle.decl_text.specs.Known.declared_pool Rattle.stack_base.specs.Tree.over_shape Rattle.stack_base.specs.Mapping.size_of Rattle.stack_base.specs.Mapping.smallest
past_the_end = refl

over_the_end : refusal item_checks nothing_declared 1 (lines (codes "disk a 64\nwrite 0 a 60 5 0")) ≡ Some (record { number = 12; line = 2 })
unfolding refusal Rattle.decl_text.specs.Text.without_empty_end Rattle.decl_text.specs.Refusals.first_found Rattle.decl_text.specs.Commands.command_of Rattle.decl_text.specs.Text.is_name Rattle.decl_text.specs.Text.number_of Rattle.decl_text.specs.Items.meaning Rattle.decl_text.specs.Known.declared_pool Rattle.stack_base.specs.Tree.over_shape Rattle.stack_base.specs.Mapping.size_of Rattle.stack_base.specs.Mapping.smallest
over_the_end = refl

overlapping : refusal item_checks nothing_declared 1 (lines (codes "disk a 64\nwrite 0 a 0 8 0\nwrite 1 a 7 2 0")) ≡ Some (record { number = 13; line = 3 })
unfolding refusal Rattle.decl_text.specs.Text.without_empty_end Rattle.decl_text.specs.Refusals.first_found Rattle.decl_text.specs.Commands.command_of Rattle.decl_text.specs.Text.is_name Rattle.decl_text.specs.Text.number_of Rattle.decl_text.specs.Items.meaning Rattle.decl_text.specs.Known.declared_pool Rattle.stack_base.specs.Tree.over_shape Rattle.stack_base.specs.Mapping.size_of Rattle.stack_base.specs.Mapping.smallest
overlapping = refl

next_to_it : refusal item_checks nothing_declared 1 (lines (codes "disk a 64\nwrite 0 a 0 8 0\nwrite 1 a 8 2 0")) ≡ None
unfolding refusal Rattle.decl_text.specs.Text.without_empty_end Rattle.decl_text.specs.Refusals.first_found Rattle.decl_text.specs.Commands.command_of Rattle.decl_text.specs.Text.is_name Rattle.decl_text.specs.Text.number_of Rattle.decl_text.specs.Items.meaning Rattle.decl_text.specs.Known.declared_pool Rattle.stack_base.specs.Tree.over_shape Rattle.stack_base.specs.Mapping.size_of Rattle.stack_base.specs.Mapping.smallest
next_to_it = refl

cut : refusal item_checks nothing_declared 1 (lines (codes "disk a 64\nwrite 0 a")) ≡ Some (record { number = 1; line = 2 })
unfolding refusal Rattle.decl_text.specs.Text.without_empty_end Rattle.decl_text.specs.Refusals.first_found Rattle.decl_text.specs.Commands.command_of Rattle.decl_text.specs.Text.is_name Rattle.decl_text.specs.Text.number_of Rattle.decl_text.specs.Items.meaning Rattle.decl_text.specs.Known.declared_pool Rattle.stack_base.specs.Tree.over_shape Rattle.stack_base.specs.Mapping.size_of Rattle.stack_base.specs.Mapping.smallest
cut = refl

twice_a_member : refusal item_checks nothing_declared 1 (lines (codes "disk a 64\nstripe s chunk=8 a a")) ≡ Some (record { number = 5; line = 2 })
unfolding refusal Rattle.decl_text.specs.Text.without_empty_end Rattle.decl_text.specs.Refusals.first_found Rattle.decl_text.specs.Commands.command_of Rattle.decl_text.specs.Text.is_name Rattle.decl_text.specs.Text.number_of Rattle.decl_text.specs.Items.meaning Rattle.decl_text.specs.Known.declared_pool Rattle.stack_base.specs.Tree.over_shape Rattle.stack_base.specs.Mapping.size_of Rattle.stack_base.specs.Mapping.smallest
twice_a_member = refl

not_a_top : refusal item_checks nothing_declared 1 (lines (codes "disk a 64\nlinear n a\nwrite 0 a 0 1 0")) ≡ Some (record { number = 11; line = 3 })
unfolding refusal Rattle.decl_text.specs.Text.without_empty_end Rattle.decl_text.specs.Refusals.first_found Rattle.decl_text.specs.Commands.command_of Rattle.decl_text.specs.Text.is_name Rattle.decl_text.specs.Text.number_of Rattle.decl_text.specs.Items.meaning Rattle.decl_text.specs.Known.declared_pool Rattle.stack_base.specs.Tree.over_shape Rattle.stack_base.specs.Mapping.size_of Rattle.stack_base.specs.Mapping.smallest
not_a_top = refl

no_such_device : refusal item_checks nothing_declared 1 (lines (codes "disk a 64\nlinear n c")) ≡ Some (record { number = 4; line = 2 })
unfolding refusal Rattle.decl_text.specs.Text.without_empty_end Rattle.decl_text.specs.Refusals.first_found Rattle.decl_text.specs.Commands.command_of Rattle.decl_text.specs.Text.is_name Rattle.decl_text.specs.Text.number_of Rattle.decl_text.specs.Items.meaning Rattle.decl_text.specs.Known.declared_pool Rattle.stack_base.specs.Tree.over_shape Rattle.stack_base.specs.Mapping.size_of Rattle.stack_base.specs.Mapping.smallest
no_such_device = refl

no_such_pool : refusal item_checks nothing_declared 1 (lines (codes "disk a 64\nscript a.bios + +")) ≡ Some (record { number = 15; line = 2 })
unfolding refusal Rattle.decl_text.specs.Text.without_empty_end Rattle.decl_text.specs.Refusals.first_found Rattle.decl_text.specs.Commands.command_of Rattle.decl_text.specs.Text.is_name Rattle.decl_text.specs.Text.number_of Rattle.decl_text.specs.Items.meaning Rattle.decl_text.specs.Known.declared_pool Rattle.stack_base.specs.Tree.over_shape Rattle.stack_base.specs.Mapping.size_of Rattle.stack_base.specs.Mapping.smallest
no_such_pool = refl

too_many_segments : refusal item_checks nothing_declared 1 (lines (codes "disk a 4096\nwrite 0 a 0 2049 0")) ≡ Some (record { number = 14; line = 2 })
unfolding refusal Rattle.decl_text.specs.Text.without_empty_end Rattle.decl_text.specs.Refusals.first_found Rattle.decl_text.specs.Commands.command_of Rattle.decl_text.specs.Text.is_name Rattle.decl_text.specs.Text.number_of Rattle.decl_text.specs.Items.meaning Rattle.decl_text.specs.Known.declared_pool Rattle.stack_base.specs.Tree.over_shape Rattle.stack_base.specs.Mapping.size_of Rattle.stack_base.specs.Mapping.smallest
too_many_segments = refl

needs_rescuer : refusal item_checks nothing_declared 1 (lines (codes "disk a 8\ndisk b 8\nmirror m a b reserve=1 records=1 rescuer=no\nmemory none\nwrite 0 m 0 1 0")) ≡ Some (record { number = 10; line = 3 })
unfolding refusal Rattle.decl_text.specs.Text.without_empty_end Rattle.decl_text.specs.Refusals.first_found Rattle.decl_text.specs.Commands.command_of Rattle.decl_text.specs.Text.is_name Rattle.decl_text.specs.Text.number_of Rattle.decl_text.specs.Items.meaning Rattle.decl_text.specs.Known.declared_pool Rattle.stack_base.specs.Tree.over_shape Rattle.stack_base.specs.Mapping.size_of Rattle.stack_base.specs.Mapping.smallest
needs_rescuer = refl

mirror : refusal item_checks nothing_declared 1 (lines (codes "disk a 8\ndisk b 8\nmirror m a b reserve=1 records=1\nmemory none\nwrite 0 m 0 1 0")) ≡ None
unfolding refusal Rattle.decl_text.specs.Text.without_empty_end Rattle.decl_text.specs.Refusals.first_found Rattle.decl_text.specs.Commands.command_of Rattle.decl_text.specs.Text.is_name Rattle.decl_text.specs.Text.number_of Rattle.decl_text.specs.Items.meaning Rattle.decl_text.specs.Known.declared_pool Rattle.stack_base.specs.Tree.over_shape Rattle.stack_base.specs.Mapping.size_of Rattle.stack_base.specs.Mapping.smallest
mirror = refl

script : refusal item_checks nothing_declared 1 (lines (codes "disk a 64\nlimit l max=1 reserve=1 a\nscript l.bios +- -\nwrite 0 l 0 4 0")) ≡ None
unfolding refusal Rattle.decl_text.specs.Text.without_empty_end Rattle.decl_text.specs.Refusals.first_found Rattle.decl_text.specs.Commands.command_of Rattle.decl_text.specs.Text.is_name Rattle.decl_text.specs.Text.number_of Rattle.decl_text.specs.Items.meaning Rattle.decl_text.specs.Known.declared_pool Rattle.stack_base.specs.Tree.over_shape Rattle.stack_base.specs.Mapping.size_of Rattle.stack_base.specs.Mapping.smallest
script = refl

late : refusal item_checks nothing_declared 1 (lines (codes "disk a 64\nwrite 0 a 0 1 0\ndisk b 8")) ≡ Some (record { number = 1; line = 3 })
unfolding refusal Rattle.decl_text.specs.Text.without_empty_end Rattle.decl_text.specs.Refusals.first_found Rattle.decl_text.specs.Commands.command_of Rattle.decl_text.specs.Text.is_name Rattle.decl_text.specs.Text.number_of Rattle.decl_text.specs.Items.meaning Rattle.decl_text.specs.Known.declared_pool Rattle.stack_base.specs.Tree.over_shape Rattle.stack_base.specs.Mapping.size_of Rattle.stack_base.specs.Mapping.smallest
late = refl

wants_chunk : refusal item_checks nothing_declared 1 (lines (codes "disk a 64\nstripe s a")) ≡ Some (record { number = 1; line = 2 })
unfolding refusal Rattle.decl_text.specs.Text.without_empty_end Rattle.decl_text.specs.Refusals.first_found Rattle.decl_text.specs.Commands.command_of Rattle.decl_text.specs.Text.is_name Rattle.decl_text.specs.Text.number_of Rattle.decl_text.specs.Items.meaning Rattle.decl_text.specs.Known.declared_pool Rattle.stack_base.specs.Tree.over_shape Rattle.stack_base.specs.Mapping.size_of Rattle.stack_base.specs.Mapping.smallest
wants_chunk = refl

chunk_zero : refusal item_checks nothing_declared 1 (lines (codes "disk a 64\nstripe s chunk=0 a")) ≡ Some (record { number = 2; line = 2 })
unfolding refusal Rattle.decl_text.specs.Text.without_empty_end Rattle.decl_text.specs.Refusals.first_found Rattle.decl_text.specs.Commands.command_of Rattle.decl_text.specs.Text.is_name Rattle.decl_text.specs.Text.number_of Rattle.decl_text.specs.Items.meaning Rattle.decl_text.specs.Known.declared_pool Rattle.stack_base.specs.Tree.over_shape Rattle.stack_base.specs.Mapping.size_of Rattle.stack_base.specs.Mapping.smallest
chunk_zero = refl

second_fs : refusal item_checks nothing_declared 1 (lines (codes "fs\n\n# disk\nfs bios=3")) ≡ Some (record { number = 3; line = 4 })
unfolding refusal Rattle.decl_text.specs.Text.without_empty_end Rattle.decl_text.specs.Refusals.first_found Rattle.decl_text.specs.Commands.command_of Rattle.decl_text.specs.Text.is_name Rattle.decl_text.specs.Text.number_of Rattle.decl_text.specs.Items.meaning Rattle.decl_text.specs.Known.declared_pool Rattle.stack_base.specs.Tree.over_shape Rattle.stack_base.specs.Mapping.size_of Rattle.stack_base.specs.Mapping.smallest
second_fs = refl

no_record : refusal item_checks nothing_declared 1 (lines (codes "disk a 64\nmirror m a records=0")) ≡ Some (record { number = 9; line = 2 })
unfolding refusal Rattle.decl_text.specs.Text.without_empty_end Rattle.decl_text.specs.Refusals.first_found Rattle.decl_text.specs.Commands.command_of Rattle.decl_text.specs.Text.is_name Rattle.decl_text.specs.Text.number_of Rattle.decl_text.specs.Items.meaning Rattle.decl_text.specs.Known.declared_pool Rattle.stack_base.specs.Tree.over_shape Rattle.stack_base.specs.Mapping.size_of Rattle.stack_base.specs.Mapping.smallest
no_record = refl

empty_stripe : refusal item_checks nothing_declared 1 (lines (codes "disk a 4\nstripe s chunk=8 a")) ≡ Some (record { number = 8; line = 2 })
unfolding refusal Rattle.decl_text.specs.Text.without_empty_end Rattle.decl_text.specs.Refusals.first_found Rattle.decl_text.specs.Commands.command_of Rattle.decl_text.specs.Text.is_name Rattle.decl_text.specs.Text.number_of Rattle.decl_text.specs.Items.meaning Rattle.decl_text.specs.Known.declared_pool Rattle.stack_base.specs.Tree.over_shape Rattle.stack_base.specs.Mapping.size_of Rattle.stack_base.specs.Mapping.smallest
empty_stripe = refl

bad_of_no_disk : refusal item_checks nothing_declared 1 (lines (codes "disk a 4\nlinear n a\nbad n 0 1 io")) ≡ Some (record { number = 6; line = 3 })
unfolding refusal Rattle.decl_text.specs.Text.without_empty_end Rattle.decl_text.specs.Refusals.first_found Rattle.decl_text.specs.Commands.command_of Rattle.decl_text.specs.Text.is_name Rattle.decl_text.specs.Text.number_of Rattle.decl_text.specs.Items.meaning Rattle.decl_text.specs.Known.declared_pool Rattle.stack_base.specs.Tree.over_shape Rattle.stack_base.specs.Mapping.size_of Rattle.stack_base.specs.Mapping.smallest
bad_of_no_disk = refl

large : refusal item_checks nothing_declared 1 (lines (codes "disk a 262144\ndisk b 1")) ≡ Some (record { number = 7; line = 2 })
unfolding refusal Rattle.decl_text.specs.Text.without_empty_end Rattle.decl_text.specs.Refusals.first_found Rattle.decl_text.specs.Commands.command_of Rattle.decl_text.specs.Text.is_name Rattle.decl_text.specs.Text.number_of Rattle.decl_text.specs.Items.meaning Rattle.decl_text.specs.Known.declared_pool Rattle.stack_base.specs.Tree.over_shape Rattle.stack_base.specs.Mapping.size_of Rattle.stack_base.specs.Mapping.smallest
large = refl
