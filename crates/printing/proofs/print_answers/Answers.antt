-- `printing::print_answers` meets its contract. The invariant: what is put so far and the text of the rest are the whole text. The
-- measure is what is left of the file.
use native.Mathlib.Omega.{arith}
use Rattle.printing.proofs.Going.{begin, over_lines, over_answers, turn_places, turn_room, turn}
use Rattle.printing.proofs.print_answers.Goals as goal

pub loop-start-init : goal.loop-start-init
loop-start-init c =
    begin c.args.file.now c.args.asked c.args.answers.now c.args.out.now c.requires.lines

pub returns-then-answers-so_far : goal.returns-then-answers-so_far
returns-then-answers-so_far c =
    let l = c.loop-start in
    over_answers c.args.file.now c.args.asked c.args.answers.now c.args.out.now l.out l.so_far.at l.so_far.count l.start l.invariant c.requires.room (omega arith)

pub put_query-so_far-requires : goal.put_query-so_far-requires
put_query-so_far-requires c =
    let l = c.loop-start in
    let places = turn_places c.args.file.now c.args.asked c.args.answers.now c.args.out.now l.out l.so_far.at l.so_far.count l.start l.invariant c.requires.room (omega arith) (omega arith) c.line_end-end.result c.line_end-end.ensures in
    let room =
    turn_room c.args.file.now c.args.asked c.args.answers.now c.args.out.now l.out l.so_far.at l.so_far.count l.start l.invariant c.requires.room
    (omega arith) (omega arith) c.line_end-end.result c.line_end-end.ensures in record { inside = (places.0, omega (arith, places.1)); answered = omega arith; room = room }

pub overflow_add-start : goal.overflow_add-start
overflow_add-start c =
    let l = c.loop-start in
    let places = turn_places c.args.file.now c.args.asked c.args.answers.now c.args.out.now l.out l.so_far.at l.so_far.count l.start l.invariant c.requires.room (omega arith) (omega arith) c.line_end-end.result c.line_end-end.ensures in
    omega (arith, places.1)

pub loop-start-preserved : goal.loop-start-preserved
loop-start-preserved c =
    let l = c.loop-start in
    turn c.args.file.now c.args.asked c.args.answers.now c.args.out.now l.out l.so_far.at l.so_far.count l.start l.invariant c.requires.room
    (omega arith) (omega arith) c.line_end-end.result c.line_end-end.ensures c.put_query-so_far.result _ c.put_query-so_far.ensures

pub returns : goal.returns
returns c =
    let l = c.loop-start in
    over_lines c.args.file.now c.args.asked c.args.answers.now c.args.out.now l.out l.so_far.at l.so_far.count l.start l.invariant c.requires.room (omega arith)
