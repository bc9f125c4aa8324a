-- To unfold `computed` is to unfold every definition of the rules: for runs and states that the checker computes.
use Rattle.lists.specs.Padded.{any, every, ascending, climbing, free_last, rising, increasing, first, final, filter, total, select, without, shifted, placed, cut, changed}
use Rattle.lists.specs.Counted.{first_from, all_from, some_from, count_from, greatest_from, steps_from, each_from}
use Rattle.lists.specs.Bytes.{byte_of, overlaid, put, value_at, add_byte, gather}
use Rattle.rules.specs.Shape.{sets_allowed, line_of, figures_allowed, fits}
use Rattle.rules.specs.Lines.{holds_line, slot_of, present, place_of, cached_byte, way_of, lookup, aged_at, use_slot, use_line, is_dirty_word, with_mark, mark_count, dirty_at, written_through_at, stored_memory, put_store, write_store, written_back_at, write_back_slot, write_back_all, dirty_words, victim, copied_at, install, fill_line, evicted_line, ages_of, preview_of}
use Rattle.rules.specs.Forward.{older_covers, load_byte, load_value, some_uncovered, all_forwarded}
use Rattle.rules.specs.Checkpoints.{add_checkpoint, forget_above, forget_up_to, forget_from}
use Rattle.rules.specs.Calls.{guarded, committed_store, waiting_at, store_rule, load_rule, answer_load, retry_with, retry_rule, answered_by, uses_line_by, use_each, commit_rule, squash, abort_rule, checkpoint_rule, restore_rule, waits_below, store_ready, wants_line, idle_rule, reply_rule, preview_rule, flush_rule, show_rule}
use Rattle.rules.specs.WellFormed.{zero_tag, free_store_zero, free_load_zero, age_good, set_aged, lines_inside_at, lines_in_set_at, lines_once_at, only_valid_dirty_at, invalid_zero_at, invalid_bytes_at, clean_equal_at, is_clean_at, four_marks_at, alone, store_passes, load_passes, committed_wait_at, waiting_uncovered_at, forwarded_answered_at, request_absent, request_inside, waits_for, request_wanted, free_checkpoint_zero, placed_at, name_fits, names_distinct, ranks_from, lines_formed, queues_formed, checkpoints_formed, well_formed}
use Rattle.rules.specs.Runs.{start_tags, started, start_allowed, unstarted, start_answer, start_world, outcome, answer, next, answers, after}
use Rattle.rules.specs.Flat.{flat_byte, applied, applied_all, added, noted, history}

unfoldable pub computed : Unit {0}
unfolding any every ascending climbing free_last rising increasing first final filter total select without shifted placed cut changed first_from
    all_from some_from count_from greatest_from steps_from each_from byte_of overlaid put value_at add_byte gather sets_allowed line_of
    figures_allowed fits holds_line slot_of present place_of cached_byte way_of lookup aged_at use_slot use_line is_dirty_word with_mark mark_count dirty_at written_through_at stored_memory put_store write_store
    written_back_at write_back_slot write_back_all dirty_words victim copied_at install fill_line evicted_line ages_of preview_of older_covers load_byte load_value some_uncovered all_forwarded
    guarded committed_store waiting_at store_rule load_rule answer_load retry_with retry_rule answered_by uses_line_by use_each commit_rule squash
    abort_rule checkpoint_rule restore_rule add_checkpoint forget_above forget_up_to forget_from waits_below store_ready wants_line idle_rule reply_rule preview_rule flush_rule show_rule zero_tag free_store_zero free_load_zero
    age_good set_aged lines_inside_at lines_in_set_at lines_once_at only_valid_dirty_at invalid_zero_at invalid_bytes_at clean_equal_at is_clean_at four_marks_at
    alone store_passes load_passes committed_wait_at waiting_uncovered_at forwarded_answered_at request_absent request_inside waits_for request_wanted free_checkpoint_zero placed_at name_fits names_distinct ranks_from lines_formed
    queues_formed checkpoints_formed well_formed start_tags started start_allowed unstarted start_answer start_world outcome answer next answers
    after flat_byte applied applied_all added noted history
computed = tt
