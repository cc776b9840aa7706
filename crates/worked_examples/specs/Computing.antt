-- `unfolding calls` opens every definition that a call, a format or a restart on a volume computes with.
use Prim.{Unit}
use Rattle.std.specs.Int.Count.{ones_in}
use Rattle.memory.specs.Lists.{write, tabulate, tabulate_from, pieces}
use Rattle.memory.specs.Bits.{bit, pack}
use Rattle.memory.specs.Power.{log2up}
use Rattle.memory.specs.Words.{words_bytes}
use Rattle.memory.specs.Ranges.{any, memb, all_of}
use Rattle.layout.specs.Geometry.{allowed}
use Rattle.layout.specs.Flash.{fresh, all_fresh}
use Rattle.layout.specs.Hash.{fnv_from, positions}
use Rattle.layout.specs.Index.{row_bit, row_byte, bit_at, filter_bit, set_byte, flush_and_build}
use Rattle.layout.specs.Items.{record_bytes, entry_bytes, deletion_bytes, item_word, put}
use Rattle.layout.specs.Search.{scan, search_pages, scan_cost, pages_cost}
use Rattle.layout.specs.Keys.{same_key}
use Rattle.layout.specs.Calls.{bad_state, too_short, judge_first, formatted, format, try_deletion, maybe_deleted, test_deletion, try_at}
use Rattle.layout.specs.Calls.{try_cost, maybe_in, search_at, da_pages_at, half_filter, deletion_plan, deletion_ram, page_filter, insertion_plan}
use Rattle.layout.specs.Calls.{insertion_ram, commit, change_by, lookup_after}
use Rattle.layout.specs.Later.{fresh_plan, later_plan, commit_later, call_again}
use Rattle.layout.specs.Header.{pages, header, header_bytes, header_word, pending_in}
use Rattle.layout.specs.Budgets.{format_for, call_for, restart_for}

unfoldable pub calls : Unit {0}
unfolding write tabulate tabulate_from pieces bit pack log2up words_bytes any memb all_of allowed ones_in fresh all_fresh fnv_from positions
    row_bit row_byte bit_at filter_bit set_byte flush_and_build record_bytes entry_bytes deletion_bytes item_word put same_key scan search_pages
    scan_cost pages_cost bad_state too_short judge_first formatted format try_deletion maybe_deleted test_deletion try_at try_cost maybe_in search_at
    da_pages_at half_filter deletion_plan deletion_ram page_filter insertion_plan insertion_ram commit change_by lookup_after
    fresh_plan later_plan commit_later call_again pages header header_bytes header_word pending_in format_for call_for restart_for
calls = tt
