-- What the examples compute with. To unfold one of these is to unfold all that its line names.
use Rattle.rows.specs.Rows as Rows
use Rattle.cells.specs.Cells.{part, overlay, padded, number_from, bytes_of, cells_of, all_bytes, marks_from, marks}
use Rattle.house_check.specs.Check as House
use Rattle.areas.specs.Areas.{area_cells, readable, area_bytes, row_of, counts_of, counts_at, read_count, key_cells, key_area, data_area, record_cells, end_by, needed, flag_of_r0, flag_after}
use Rattle.hunt.specs.Hunt.{scan, hunt, count_first, spot_fits, past_index, ahead_or, next_record, next_id, spaced_to, space_record}
use Rattle.room.specs.Room.{room_left, fits}
use Rattle.table.specs.Table.{is_mask, seeks_barred, bars_seek, writes_barred, bars_write}
use Rattle.rows.specs.Rows.{sense_of}
use Rattle.words.specs.Words.{begun_by, word_at, tested_command, tested_word, tested, stored, status_for, channel_for, program_check}
use Rattle.pack.specs.Pack.{pack_fits, seek_to, seek_head, start_of, track_at}
use Rattle.compare.specs.Compare.{compared}
use Rattle.held.specs.Held.{fresh_position, fresh_orders, fresh_channel, fresh, rested}
use Rattle.turn.specs.Turn.{position_at, with_sense, position_sought, orders_of, after}
use Rattle.command.specs.Command.{area_if, named, named_by, seen_with, id_of, count_moved, equal_id, equal_id_or_key, home_done, record_written, satisfies, satisfies_field, equal_only}
use Rattle.format.specs.Format.{new_counts, new_key, new_data, new_record, recorded}
use Rattle.channel.specs.Channel.{unit_status, ends_well, stride, onward}
use Rattle.table.specs.Table as Table
use Rattle.turn.specs.Turn as Turn
use Rattle.command.specs.Command as Command
use Rattle.channel.specs.Channel as Channel
use Rattle.chain.specs.Step as Step
use Rattle.host.specs.Host as Host
use Rattle.sound.specs.Test.{all_gaps, one_zero, record_ok, records_ok, soundly}
use Rattle.sound.specs.Tracks.{track_of, home_with, count_with, usual_r0, home_and_r0}

-- a track, its areas and whether it is soundly written
unfoldable pub track : Unit {0}
unfolding part overlay padded number_from bytes_of cells_of all_bytes marks_from marks House.bit_step House.feed House.byte_bits House.bits House.check House.agrees House.good_cells House.with_check House.cells_with_check area_cells readable area_bytes row_of counts_of counts_at read_count key_cells key_area data_area record_cells end_by needed flag_of_r0 flag_after scan hunt count_first spot_fits past_index ahead_or next_record next_id spaced_to space_record room_left fits all_gaps one_zero record_ok records_ok soundly track_of home_with count_with usual_r0 home_and_r0
track = tt

-- a command
unfoldable pub command : Unit {0}
unfolding track is_mask seeks_barred bars_seek writes_barred bars_write sense_of seek_to seek_head compared position_at with_sense position_sought orders_of after area_if named named_by seen_with id_of count_moved equal_id equal_id_or_key home_done record_written satisfies satisfies_field equal_only new_counts new_key new_data new_record recorded Table.controls Table.searches Table.reads Table.writes Table.find Table.rule_of Table.looks Table.serves_data Table.serves_key Table.is_home Turn.given Turn.transfer_of Turn.wants Turn.report_of Rows.row_takes Turn.is_check Turn.check_turn Command.marks_of Command.licensed Command.tallies Command.on_record Command.on_next Command.on_selected Command.to_next Command.to_served Command.aimed Command.unless_barred Command.plan_of Command.on_head Command.areas_of Command.all_read Command.counts_in Command.gets Command.seen_of Command.writes_over Command.goes_over Command.all_recorded Command.areas_read Command.sight Command.fail_turn Command.sense_after Command.position_after Command.orders_after Command.end_turn_at Command.end_turn Command.ending_of Command.no_op_turn Command.sense_bytes Command.sense_turn Command.sought_by Command.addressed Command.arrival_turn Command.seek_turn Command.masked_turn Command.mask_turn Command.spaced_place Command.space_turn Command.field_of Command.comparison Command.satisfied Command.wholly Command.field_turn Command.search_turn Command.offered Command.read_turn Command.piece Command.to_end Command.home_turn Command.record_takes Command.new_turn Command.r0_turn Command.record_turn Command.over_piece Command.key_sent Command.update_turn Command.control_turn Command.write_turn Command.act_turn Command.has_read Command.ready_by Command.plan_reads Command.ready_turn Command.rule_turn Command.command
command = tt

-- the box: the channel, a chain, what the host hears
unfoldable pub box : Unit {0}
unfolding command begun_by word_at tested_command tested_word tested stored status_for channel_for program_check pack_fits start_of track_at fresh_position fresh_orders fresh_channel fresh rested unit_status ends_well stride onward Channel.fetched Channel.placed Channel.bytes_moved Channel.moves_any Channel.length_counts Channel.wrong_length Channel.goes_on Channel.held_after Channel.status_after Channel.with_status Channel.storage_after Step.under Step.track_under Step.next Step.tracks_of Step.lay_on Channel.stops Channel.jumped Step.turn_of Step.settled Step.obeyed Step.step_by Step.step Step.run Step.tested_reads Step.word_reads Step.storage_fits Step.position_fits Step.channel_fits Step.selection_fits Step.orders_fit Step.held_fits Host.guard_of Host.guards Host.refuses_start Host.beginning Host.first_word Host.begins Host.starts Host.ran Host.goes
box = tt
