-- One name for all definitions, for proofs by computation: with `unfolding computes` every definition of specs/ unfolds.
use Rattle.model.specs.Lists.{tabulate, joined, sum, every, some, all, cons_if, filter, concat, pick_from, member, distinct, one, occ, choose}
use Rattle.model.specs.Words.{byte_of, word_of, words_of}
use Rattle.model.specs.Layout.{files}
use Rattle.model.specs.Tree.{live, seen, ending, visit, span, least, aligned, cell, link, walk, visits, shown, blocks, data_blocks, sound}
use Rattle.model.specs.Board.{root_walk, root_visits, root_blocks, root_sound, trailer_word, greatest, block_count, trailer, inode_block, inode_pointer, leaf, root_address, size_address, root, size, file_walk, file_visits, contents, linked_leaf, linked_word, walk_to, visits_to, file_blocks, file_data, live_blocks, free, in_range, word_count_sound, trailer_sound, leaf_sound, spare_sound, inodes_sound, file_sound, trees_sound, accepted}
use Rattle.model.specs.Store.{store, barrier, is_barrier, performed, stores, opening, epochs, fenced, flat, paired, laid}
use Rattle.model.specs.Hidden.{keeps_bytes, hidden_under, hidden_in_file, hidden}
use Rattle.model.specs.Plan.{step, step_epochs, plan_epochs, plan, pairs, afterwards}
use Rattle.model.specs.Fresh.{splice, part, part_length, touched, fresh_need, fresh_before, need, data_page, stored, fresh_pointer, pointer_page, build}
use Rattle.model.specs.InPlace.{at_block, tail_need, tail_before, walk_live, tail_pages, tail_words, hooked, in_place}
use Rattle.model.specs.Change.{level_page, level_below, levels, level_top, growth_to, growth, grown_inode, spliced_word, single_block, single_word, is_tail, empty_tail_to, empty_tail, tail, descend, shadow_inside, replaced, copied_leaf, leaf_page, shadow_with_length, chosen_way, grown_plan, some_plan, write_plan, cleared, length_plan}
use Rattle.model.specs.GivenUp.{own, path_blocks, inside_blocks, dropped_blocks, way_gives, length_gives, some_gives, write_gives}
use Rattle.model.specs.Format.{inode_page, format_pages, trailer_address, trailer_stores, format_plan}
use Rattle.model.specs.Answers.{number, signed, ended, answered, unless_refused, counted}
use Rattle.model.specs.Calls.{stretch_count, root_visited, word_count_fault, board_faults, file_faults, check_answer, free_count_answer, size_answer, read_count, read_answer, read_buffer, visited, read_visited, planned, write_faults, write_from, lowest, write, write_visited, set_length, format, perform_faults, perform_answer, perform_board}
use Rattle.model.specs.Cabinet.{image_faults, image_check_answer, image_check, image_size, image_read_answer, image_read, image_read_buffer}
use Rattle.model.specs.Lister.{digits, decimal, field, line, held_count, file_line, board_lines, answer_lines, listing}
use Rattle.model.specs.Cut.{file_of, called_from, called, plan_from, plan_for, given_up, plan_of, overwritten, altered, after, chosen, standing, last_arrived}

unfoldable pub computes : Unit {0}
unfolding tabulate joined sum every some all cons_if filter concat pick_from member distinct one occ choose
    byte_of word_of words_of
    files
    live seen ending visit span least aligned cell link walk visits shown blocks data_blocks sound
    root_walk root_visits root_blocks root_sound trailer_word greatest block_count trailer inode_block inode_pointer leaf root_address size_address root size file_walk file_visits contents linked_leaf linked_word walk_to visits_to file_blocks file_data live_blocks free in_range word_count_sound trailer_sound leaf_sound spare_sound inodes_sound file_sound trees_sound accepted
    store barrier is_barrier performed stores opening epochs fenced flat paired laid
    keeps_bytes hidden_under hidden_in_file hidden
    step step_epochs plan_epochs plan pairs afterwards
    splice part part_length touched fresh_need fresh_before need data_page stored fresh_pointer pointer_page build
    at_block tail_need tail_before walk_live tail_pages tail_words hooked in_place
    level_page level_below levels level_top growth_to growth grown_inode spliced_word single_block single_word is_tail empty_tail_to empty_tail tail descend shadow_inside replaced copied_leaf leaf_page shadow_with_length chosen_way grown_plan some_plan write_plan cleared length_plan
    own path_blocks inside_blocks dropped_blocks way_gives length_gives some_gives write_gives
    inode_page format_pages trailer_address trailer_stores format_plan
    number signed ended answered unless_refused counted
    stretch_count root_visited word_count_fault board_faults file_faults check_answer free_count_answer size_answer read_count read_answer read_buffer visited read_visited planned write_faults write_from lowest write write_visited set_length format perform_faults perform_answer perform_board
    image_faults image_check_answer image_check image_size image_read_answer image_read image_read_buffer
    digits decimal field line held_count file_line board_lines answer_lines listing
    file_of called_from called plan_from plan_for given_up plan_of overwritten altered after chosen standing last_arrived
computes = tt
