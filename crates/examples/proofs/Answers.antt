-- What reading and evaluation answer, as document 01 writes it: rows, a truth value, a from-value, or a refusal's number and place.
use Prim.Native.Nat.{ℕ}
use mathlib.Core.List.{List}
use lib.IntN.{ℤ}
use Rattle.grammar.specs.Refusals.{number}
use Rattle.grammar.specs.Tree.{Request}
use Rattle.grammar.specs.Reader.{Read, read, refused}
use Rattle.meaning.specs.declared.Truth.{Truth}
use Rattle.meaning.specs.declared.Truth.TheVariants as Truth
use Rattle.meaning.specs.Evaluation.{Outcome, answered, strayed}
use Rattle.decimal.specs.Number
use Rattle.dictionary.specs.Dictionary
use Rattle.dictionary.specs.Format
use Rattle.dictionary.specs.Naming as DictionaryNames
use Rattle.records.specs.Record
use Rattle.records.specs.Runs as RunEntries
use Rattle.grammar.specs.Bytes
use Rattle.grammar.specs.Conditions
use Rattle.grammar.specs.Kinds
use Rattle.grammar.specs.Messages
use Rattle.grammar.specs.Named
use Rattle.grammar.specs.Environment as GrammarNames
use Rattle.grammar.specs.Reader
use Rattle.grammar.specs.Reading
use Rattle.grammar.specs.Refusals
use Rattle.grammar.specs.Rows
use Rattle.grammar.specs.Scope
use Rattle.grammar.specs.Sizes
use Rattle.grammar.specs.Statements
use Rattle.grammar.specs.Values
use Rattle.meaning.specs.Data
use Rattle.meaning.specs.Decoding
use Rattle.records.specs.declared.missing.Cause.{Cause}
use Rattle.records.specs.declared.missing.Cause.TheVariants as Cause
use Rattle.meaning.specs.Evaluation
use Rattle.meaning.specs.House
use Rattle.meaning.specs.Inputs
use Rattle.meaning.specs.Meaning
use Rattle.meaning.specs.Runs
use Rattle.explanation.specs.Explanation
use Rattle.text.specs.Tests
use Rattle.text.specs.Value
use Rattle.wire.specs.Classes
use Rattle.wire.specs.Lists
use Rattle.wire.specs.Orders
use Rattle.wire.specs.Versions
use Rattle.wire.specs.Words

pub data Answer : Type 0 where
  rows : List ℕ → List ℕ → List ℕ → Answer
  is_true is_false is_stray : Answer
  is_missing : Cause → Answer
  is_number : ℤ → ℤ → Answer
  is_text : List ℕ → Answer
  is_date : ℤ → ℕ → Answer
  -- two numbers a test, as a table has them
  tests : List ℕ → Answer
  refusal : ℕ → ℕ → Answer

abbrev pub reading_answer : List ℕ → Read Request → Answer
reading_answer d (read r c) =
    rows (Rows.request_statement_rows r) (Rows.parameter_rows r.messages)
    (Rows.request_context_rows (Reading.relations_of (Dictionary.dictionary d)) r)
reading_answer d (refused x p) = refusal (number x) p

abbrev pub truth_answer : Outcome Truth → Answer
truth_answer (answered Truth.True) = is_true
truth_answer (answered Truth.False) = is_false
truth_answer (answered (Truth.Missing w)) = is_missing w
truth_answer (Evaluation.refusal x p) = refusal (number x) p
truth_answer strayed = is_stray

abbrev pub from_answer : Outcome Evaluation.Answer → Answer
from_answer (answered (Evaluation.number a)) = is_number a.value a.scale
from_answer (answered (Evaluation.text t)) = is_text t
from_answer (answered (Evaluation.date day fraction)) = is_date day fraction
from_answer (answered (Evaluation.missing w)) = is_missing w
from_answer (Evaluation.refusal x p) = refusal (number x) p
from_answer strayed = is_stray

abbrev pub tests_answer : Outcome (List Explanation.Test) → Answer
tests_answer (answered ts) = tests (Explanation.test_numbers ts)
tests_answer (Evaluation.refusal x p) = refusal (number x) p
tests_answer strayed = is_stray

-- an answer of which no cause is told
abbrev pub any_cause : Answer → Answer
any_cause (rows s p c) = rows s p c
any_cause is_true = is_true
any_cause is_false = is_false
any_cause is_stray = is_stray
any_cause (is_missing w) = is_missing Cause.Bit
any_cause (is_number a scale) = is_number a scale
any_cause (is_text t) = is_text t
any_cause (is_date day fraction) = is_date day fraction
any_cause (tests ts) = tests ts
any_cause (refusal n p) = refusal n p

-- every definition of a file: to unfold one of these is to unfold them all, so that an answer computes
unfoldable pub open_number : Unit {0}
unfolding Number.places Number.fitted Number.rescaled Number.added Number.subtracted Number.multiplied Number.divided
open_number = tt

unfoldable pub open_number2 : Unit {0}
unfolding Number.quotient Number.quotient5 Number.negated Number.computed Number.compared
open_number2 = tt

unfoldable pub open_dictionary : Unit {0}
unfolding Dictionary.good_name Dictionary.relation_entry Dictionary.field_entry Dictionary.entry Dictionary.entries
open_dictionary = tt

unfoldable pub open_dictionary2 : Unit {0}
unfolding Dictionary.dictionary
open_dictionary2 = tt

unfoldable pub open_format : Unit {0}
unfolding Format.held Format.scale_in_range Format.size_in_range
open_format = tt

unfoldable pub open_dictionary_names : Unit {0}
unfolding DictionaryNames.relation_of DictionaryNames.field_of DictionaryNames.format_of
open_dictionary_names = tt

unfoldable pub open_record : Unit {0}
unfolding Record.packed Record.offset_of Record.record_length Record.bit_at Record.bits_clear Record.proper_record Record.records
open_record = tt

unfoldable pub open_record2 : Unit {0}
unfolding Record.field_presence
open_record2 = tt

unfoldable pub open_run_entries : Unit {0}
unfolding RunEntries.proper_records RunEntries.records_held RunEntries.proper_run RunEntries.runs
open_run_entries = tt

unfoldable pub open_bytes : Unit {0}
unfolding Bytes.descriptor_bytes Bytes.descriptors_bytes Bytes.message_bytes Bytes.messages_bytes Bytes.stream_bytes Bytes.streams_bytes
open_bytes = tt

unfoldable pub open_bytes2 : Unit {0}
unfolding Bytes.literal_bytes Bytes.reference_bytes Bytes.heading_bytes Bytes.value_bytes Bytes.boolean_bytes Bytes.keys_bytes
open_bytes2 = tt

unfoldable pub open_bytes3 : Unit {0}
unfolding Bytes.key_count Bytes.clauses_bytes Bytes.head_bytes Bytes.rse_bytes Bytes.statement_bytes Bytes.statements_bytes
open_bytes3 = tt

unfoldable pub open_bytes4 : Unit {0}
unfolding Bytes.receives_bytes Bytes.request_bytes
open_bytes4 = tt

unfoldable pub open_conditions : Unit {0}
unfolding Conditions.clauses_conditions Conditions.rse_conditions Conditions.conditions Conditions.statements_conditions
open_conditions = tt

unfoldable pub open_conditions2 : Unit {0}
unfolding Conditions.receives_conditions Conditions.request_conditions
open_conditions2 = tt

unfoldable pub open_kinds : Unit {0}
unfolding Kinds.format_kind Kinds.field_kind Kinds.literal_kind Kinds.reference_kind Kinds.arithmetic_kind Kinds.kind_of Kinds.one_kind Kinds.both_text
open_kinds = tt

unfoldable pub open_kinds2 : Unit {0}
unfolding Kinds.all_one_kind
open_kinds2 = tt

unfoldable pub open_messages : Unit {0}
unfolding Messages.scale_byte Messages.size_word Messages.descriptor_under Messages.descriptor Messages.descriptors Messages.message
open_messages = tt

unfoldable pub open_messages2 : Unit {0}
unfolding Messages.messages
open_messages2 = tt

unfoldable pub open_named : Unit {0}
unfolding Named.own_booleans Named.own_value Named.owns_below Named.owns_of Named.receives_owns Named.request_owns Named.from_value
open_named = tt

unfoldable pub open_grammar_names : Unit {0}
unfolding GrammarNames.context_of GrammarNames.message_of GrammarNames.relation_of_context GrammarNames.under_streams
open_grammar_names = tt

unfoldable pub open_grammar_names2 : Unit {0}
unfolding GrammarNames.under_rse GrammarNames.under_heading GrammarNames.descriptor_format GrammarNames.parameter_format
open_grammar_names2 = tt

unfoldable pub open_grammar_names3 : Unit {0}
unfolding GrammarNames.field_format
open_grammar_names3 = tt

unfoldable pub open_reader : Unit {0}
unfolding Reader.taken Reader.peek Reader.name Reader.tested Reader.code Reader.coded Reader.count_statement Reader.opened Reader.noted
open_reader = tt

unfoldable pub open_reading : Unit {0}
unfolding Reading.nothing_more Reading.outer_statements Reading.request Reading.reading Reading.answer Reading.statement_table
open_reading = tt

unfoldable pub open_reading2 : Unit {0}
unfolding Reading.version Reading.parameter_table Reading.context_table
open_reading2 = tt

unfoldable pub open_refusals : Unit {0}
unfolding Refusals.number
open_refusals = tt

unfoldable pub open_rows : Unit {0}
unfolding Rows.rows_below Rows.statements_rows Rows.receives_rows Rows.descriptor_rows Rows.parameter_rows Rows.stream_rows
open_rows = tt

unfoldable pub open_rows2 : Unit {0}
unfolding Rows.rse_rows Rows.heading_rows Rows.context_rows Rows.contexts_rows Rows.receives_context_rows Rows.request_statement_rows
open_rows2 = tt

unfoldable pub open_rows3 : Unit {0}
unfolding Rows.request_context_rows Rows.value_rows Rows.boolean_rows Rows.keys_rows Rows.clauses_rows
open_rows3 = tt

unfoldable pub open_scope : Unit {0}
unfolding Scope.in_scope Scope.declared Scope.of_for Scope.updating Scope.field_target Scope.parameter_target
open_scope = tt

unfoldable pub open_sizes : Unit {0}
unfolding Sizes.value_depth Sizes.boolean_depth Sizes.keys_depth Sizes.clauses_depth Sizes.rse_depth Sizes.statement_depth
open_sizes = tt

unfoldable pub open_sizes2 : Unit {0}
unfolding Sizes.statements_depth Sizes.receives_depth Sizes.statement_count Sizes.statements_count Sizes.receives_count
open_sizes2 = tt

unfoldable pub open_sizes3 : Unit {0}
unfolding Sizes.rse_contexts Sizes.heading_contexts Sizes.context_count Sizes.contexts_count Sizes.receives_contexts
open_sizes3 = tt

unfoldable pub open_sizes4 : Unit {0}
unfolding Sizes.descriptors_size Sizes.message_size Sizes.count_in_range Sizes.booleans_count Sizes.sorts_count
open_sizes4 = tt

unfoldable pub open_sizes5 : Unit {0}
unfolding Sizes.rse_booleans Sizes.own_conditions Sizes.condition_count Sizes.conditions_count Sizes.receives_condition_count
open_sizes5 = tt

unfoldable pub open_sizes6 : Unit {0}
unfolding Sizes.value_contexts Sizes.boolean_contexts Sizes.keys_contexts Sizes.clauses_contexts
open_sizes6 = tt

unfoldable pub open_statements : Unit {0}
unfolding Statements.stream Statements.streams Statements.count_byte Statements.rse_head Statements.keys Statements.sort
open_statements = tt

unfoldable pub open_statements2 : Unit {0}
unfolding Statements.clauses_under Statements.clauses Statements.exchanged Statements.modify_heading
open_statements2 = tt

unfoldable pub open_statements3 : Unit {0}
unfolding Statements.receive_heading Statements.send_heading Statements.store_heading Statements.label_heading Statements.many
open_statements3 = tt

unfoldable pub open_statements4 : Unit {0}
unfolding Statements.many_receives Statements.assignment_under Statements.erase_under Statements.for_under Statements.headed_under
open_statements4 = tt

unfoldable pub open_statements5 : Unit {0}
unfolding Statements.leave_under Statements.if_under Statements.select_under Statements.begin_under Statements.statement_under
open_statements5 = tt

unfoldable pub open_statements6 : Unit {0}
unfolding Statements.receive_under Statements.read_statement Statements.read_receive Statements.stream_count
open_statements6 = tt

unfoldable pub open_values : Unit {0}
unfolding Values.literal_under Values.read_literal Values.context_byte Values.message_byte Values.parameter_word Values.field_name
open_values = tt

unfoldable pub open_values2 : Unit {0}
unfolding Values.read_field Values.read_reference Values.read_target Values.value_under Values.read_value Values.boolean_under
open_values2 = tt

unfoldable pub open_values3 : Unit {0}
unfolding Values.read_boolean Values.one_stream_rse Values.statistic_under Values.count_under Values.quantifier_under
open_values3 = tt

unfoldable pub open_data : Unit {0}
unfolding Data.kind Data.pair Data.arithmetic_of Data.negate_of Data.date_order Data.compare_of Data.search_of Data.between_of
open_data = tt

unfoldable pub open_data2 : Unit {0}
unfolding Data.connected Data.with_value Data.statistic_of
open_data2 = tt

unfoldable pub open_decoding : Unit {0}
unfolding Decoding.byte Decoding.peek Decoding.bytes Decoding.word Decoding.long Decoding.code Decoding.coded Decoding.several
open_decoding = tt

unfoldable pub open_decoding2 : Unit {0}
unfolding Decoding.message Decoding.messages Decoding.counted_name Decoding.id Decoding.reference_under Decoding.value_under
open_decoding2 = tt

unfoldable pub open_decoding3 : Unit {0}
unfolding Decoding.value Decoding.boolean_under Decoding.boolean Decoding.stream Decoding.keys Decoding.clauses_under
open_decoding3 = tt

unfoldable pub open_decoding4 : Unit {0}
unfolding Decoding.clauses Decoding.rse_of Decoding.many Decoding.many_receives Decoding.statement_under Decoding.statement
open_decoding4 = tt

unfoldable pub open_decoding5 : Unit {0}
unfolding Decoding.int64 Decoding.at_end Decoding.descriptor Decoding.version Decoding.request Decoding.decode
open_decoding5 = tt

unfoldable pub open_evaluation : Unit {0}
unfolding Evaluation.due_relations Evaluation.evaluation Evaluation.value_evaluation
open_evaluation = tt

unfoldable pub open_house : Unit {0}
unfolding House.entry_said House.entries_said House.house
open_house = tt

unfoldable pub open_inputs : Unit {0}
unfolding Inputs.kind_held Inputs.value_at Inputs.literal_value Inputs.record_place Inputs.field_in Inputs.field_value Inputs.parameter_at
open_inputs = tt

unfoldable pub open_inputs2 : Unit {0}
unfolding Inputs.parameter_value Inputs.fetch
open_inputs2 = tt

unfoldable pub open_meaning : Unit {0}
unfolding Meaning.value_of Meaning.kept_of Meaning.answer_of Meaning.truth_of Meaning.rse_truth Meaning.clauses_truth Meaning.around Meaning.meaning
open_meaning = tt

unfoldable pub open_meaning2 : Unit {0}
unfolding Meaning.gathered_of Meaning.rse_number Meaning.rse_count Meaning.around_value Meaning.value_meaning
open_meaning2 = tt

unfoldable pub open_runs : Unit {0}
unfolding Runs.value_runs Runs.due_runs Runs.rse_runs Runs.clauses_runs Runs.run_relations Runs.parts Runs.lent_runs Runs.fetch_around Runs.within Runs.within_each
open_runs = tt

unfoldable pub open_tests : Unit {0}
unfolding Tests.order_from Tests.text_order Tests.lower_case Tests.starts_by Tests.starting Tests.containing Tests.after_run
open_tests = tt

unfoldable pub open_tests2 : Unit {0}
unfolding Tests.after_byte Tests.matches Tests.search
open_tests2 = tt

unfoldable pub open_value : Unit {0}
unfolding Value.kept Value.bytes_of Value.text_part
open_value = tt

unfoldable pub open_classes : Unit {0}
unfolding Classes.classify Classes.statement_class Classes.value_class Classes.target_class Classes.boolean_class Classes.stream_class
open_classes = tt

unfoldable pub open_classes2 : Unit {0}
unfolding Classes.clause_class Classes.direction_class Classes.descriptor_class Classes.literal_class Classes.field_class
open_classes2 = tt

unfoldable pub open_lists : Unit {0}
unfolding Lists.any_of Lists.all_of Lists.find Lists.index_of Lists.among Lists.sum_of Lists.same_bytes
open_lists = tt

unfoldable pub open_orders : Unit {0}
unfolding Orders.order_ℕ Orders.order_ℤ
open_orders = tt

unfoldable pub open_words : Unit {0}
unfolding Words.signed
open_words = tt

unfoldable pub open_versions : Unit {0}
unfolding Versions.is_version Versions.version_of
open_versions = tt

unfoldable pub open_explanation : Unit {0}
unfolding Explanation.joined Explanation.explained_of Explanation.explained Explanation.explained_evaluation Explanation.explanation
open_explanation = tt

unfoldable pub open_explanation2 : Unit {0}
unfolding Explanation.test_numbers
open_explanation2 = tt

unfoldable pub everything1 : Unit {0}
unfolding open_number open_number2 open_dictionary open_dictionary2 open_format open_dictionary_names open_record open_record2 open_run_entries open_bytes
everything1 = tt

unfoldable pub everything2 : Unit {0}
unfolding open_bytes2 open_bytes3 open_bytes4 open_conditions open_conditions2 open_kinds open_kinds2 open_messages open_messages2
everything2 = tt

unfoldable pub everything3 : Unit {0}
unfolding open_grammar_names open_grammar_names2 open_grammar_names3 open_reader open_reading open_reading2 open_refusals open_rows open_rows2
everything3 = tt

unfoldable pub everything4 : Unit {0}
unfolding open_rows3 open_scope open_sizes open_sizes2 open_sizes3 open_sizes4 open_sizes5 open_sizes6 open_statements open_statements2 open_statements3
everything4 = tt

unfoldable pub everything5 : Unit {0}
unfolding open_statements4 open_statements5 open_statements6 open_values open_values2 open_values3 open_data open_data2 open_decoding
everything5 = tt

unfoldable pub everything6 : Unit {0}
unfolding open_decoding2 open_decoding3 open_decoding4 open_decoding5 open_evaluation open_house open_inputs open_inputs2 open_runs open_meaning
everything6 = tt

unfoldable pub everything7 : Unit {0}
unfolding open_tests open_tests2 open_value open_classes open_classes2 open_lists open_orders open_words open_versions open_named open_meaning2
everything7 = tt

unfoldable pub read_answer : List ℕ → List ℕ → ℕ → ℕ → ℕ → Answer
unfolding everything1 everything2 everything3 everything4 everything5 everything6 everything7
read_answer s d a b c = reading_answer d (Reading.answer s d a b c)

unfoldable pub evaluate_answer : List ℕ → List ℕ → ℕ → List ℕ → List ℕ → List ℕ → Answer
unfolding everything1 everything2 everything3 everything4 everything5 everything6 everything7
evaluate_answer s d n images records runs = truth_answer (Evaluation.evaluation s d n images records runs)

unfoldable pub value_answer : List ℕ → List ℕ → ℕ → List ℕ → List ℕ → List ℕ → Answer
unfolding everything1 everything2 everything3 everything4 everything5 everything6 everything7
value_answer s d k images records runs = from_answer (Evaluation.value_evaluation s d k images records runs)

unfoldable pub explain_answer : List ℕ → List ℕ → ℕ → List ℕ → List ℕ → List ℕ → ℕ → Answer
unfolding everything1 everything2 everything3 everything4 everything5 everything6 everything7 open_explanation open_explanation2
explain_answer s d n images records runs room = tests_answer (Explanation.explanation s d n images records runs room)
