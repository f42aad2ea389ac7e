use Rattle.std.proofs.Common.{◌≡◌, ◌≤◌, ◌+◌, ◌∙◌, ap, inl, inr, length, refl, subst, sym}
use Rattle.std.specs.Io.KnownBytes.{Appends}
use Rattle.dap_outside.specs.Streams.{AppendsFront}
use Rattle.dap_commands.proofs.Answering.{another_line, same_target}
use Rattle.dap_commands.proofs.Commanding.{same-serve}
use Rattle.dap_commands.proofs.Fetching.{another-fetch-line, for-words, form-kind, form-of, no-answer, no-command, no-command-url, no-relay, no-save, no-save-url, no-serve, no-show, no-soak, no-url, no-ver, soak-no-answer}
use Rattle.dap_commands.proofs.Obeying.{answer-no-words, serve-for, serve-no-words}
use Rattle.dap_commands.proofs.Pieces.{first-said, still-said}
use Rattle.dap_commands.proofs.RelayWords.{relay-as, relay-for, relay-host, relays-no-words}
use Rattle.dap_commands.proofs.Saved.{another-save-line, input-no-fetch, input-no-save, no-save-command, no-save-known, save-for, save-no-answer, save-no-fetch, save-no-soak, save-only}
use Rattle.dap_commands.proofs.Seeds.{soak-for}
use Rattle.dap_commands.proofs.Shown.{another_show_line, told_status}
use Rattle.dap_commands.specs.Answer.{AnswerSays, MustResult, most_before}
use Rattle.dap_commands.specs.Lines.{IsSaid, line_of}
use Rattle.dap_commands.specs.Serve.{lines_from}
use Rattle.dap_commands.specs.declared.status.Status.TheVariants.{Words, LinkFault, WriteFault}
use Rattle.dap_commands.proofs.top.run.Goals as goal

pub returns-in-Answer-clause-answer : goal.returns-in-Answer-clause-answer
returns-in-Answer-clause-answer g c = λ target workers are.
    another_line (g.S.Shelf.files c.args.shelf.now) target (Appends (g.O.Sink.written c.args.out.now) (g.O.Sink.written c.answer-status.new.out)) (AppendsFront (g.O.Sink.written c.args.out.now) (g.O.Sink.written c.answer-status.new.out))
    (λ line. IsSaid line (g.E.Sink.put_faults c.args.err.now) (g.E.Sink.put_faults c.answer-status.new.err) (g.E.Sink.written c.args.err.now) (g.E.Sink.written c.answer-status.new.err))
    (λ line. IsSaid line (g.E.Sink.put_faults c.args.err.now) (g.E.Sink.put_faults c.say_line.new.err) (g.E.Sink.written c.args.err.now) (g.E.Sink.written c.say_line.new.err)) c.answer-status.result
    (λ none. still-said g.E.Sink.put_faults g.E.Sink.written c.args.err.now c.answer-status.new.err c.say_line.new.err (c.say_line.ensures.silent none))
    (subst (λ t. AnswerSays (g.S.Shelf.files c.args.shelf.now) t (Appends (g.O.Sink.written c.args.out.now) (g.O.Sink.written c.answer-status.new.out)) (AppendsFront (g.O.Sink.written c.args.out.now) (g.O.Sink.written c.answer-status.new.out))
    (λ line. IsSaid line (g.E.Sink.put_faults c.args.err.now) (g.E.Sink.put_faults c.answer-status.new.err) (g.E.Sink.written c.args.err.now) (g.E.Sink.written c.answer-status.new.err)) c.answer-status.result) (same_target _ _ _ _ _ c.in-Answer.ensures.0 are) c.answer-status.ensures.says)

pub returns-in-Answer-clause-answered : goal.returns-in-Answer-clause-answered
returns-in-Answer-clause-answered g c = λ target workers are r must still quiet had.
    c.answer-status.ensures.only r (subst (λ t. MustResult (g.S.Shelf.files c.args.shelf.now) t r) (same_target _ _ _ _ _ are c.in-Answer.ensures.0) must) still quiet had

pub returns-in-Answer-clause-words : goal.returns-in-Answer-clause-words
returns-in-Answer-clause-words g c = (
  λ is command. answer-no-words (g.S.Shelf.files c.args.shelf.now) c.in-Answer.target.now (Appends (g.O.Sink.written c.args.out.now) (g.O.Sink.written c.answer-status.new.out)) (AppendsFront (g.O.Sink.written c.args.out.now) (g.O.Sink.written c.answer-status.new.out))
      (λ line. IsSaid line (g.E.Sink.put_faults c.args.err.now) (g.E.Sink.put_faults c.answer-status.new.err) (g.E.Sink.written c.args.err.now) (g.E.Sink.written c.answer-status.new.err)) c.answer-status.result c.answer-status.ensures.says is,
  λ no_one. absurd (no_one (inl (_, _, c.in-Answer.ensures.0))),
)

pub returns-in-Answer-clause-no_command : goal.returns-in-Answer-clause-no_command
returns-in-Answer-clause-no_command g c = λ no_one. absurd (no_one (inl (_, _, c.in-Answer.ensures.0)))

pub returns-in-Serve-clause-serve : goal.returns-in-Serve-clause-serve
returns-in-Serve-clause-serve g c = λ port workers requests are.
    let (p, r) = same-serve _ _ _ _ _ _ _ c.in-Serve.ensures are in
    serve-for _ _ _ _ _ _ _ _ _ _ p r c.serve-status.ensures.served

pub returns-in-Serve-clause-door : goal.returns-in-Serve-clause-door
returns-in-Serve-clause-door g c = λ no_one. absurd (no_one (_, _, _, c.in-Serve.ensures))

pub returns-in-Serve-clause-words : goal.returns-in-Serve-clause-words
returns-in-Serve-clause-words g c = (
  λ is command. serve-no-words c.in-Serve.requests (length c.serve-status.ensures.served.0) (lines_from 1 c.serve-status.ensures.served.0) (Appends (g.O.Sink.written c.args.out.now) (g.O.Sink.written c.serve-status.new.out)) (AppendsFront (g.O.Sink.written c.args.out.now) (g.O.Sink.written c.serve-status.new.out))
      c.serve-status.result c.serve-status.ensures.served.1.says is,
  λ no_one. absurd (no_one (inr (inr (inl (_, _, _, c.in-Serve.ensures))))),
)

pub returns-in-Serve-clause-no_command : goal.returns-in-Serve-clause-no_command
returns-in-Serve-clause-no_command g c = λ no_one. absurd (no_one (inr (inr (inl (_, _, _, c.in-Serve.ensures)))))

pub returns-in-Other-clause-serve : goal.returns-in-Other-clause-serve
returns-in-Other-clause-serve g c = λ port workers requests are. absurd (c.in-Other.ensures (inr (inr (inl (port, workers, requests, are)))))

pub returns-in-Answer-clause-fetch : goal.returns-in-Answer-clause-fetch
returns-in-Answer-clause-fetch g c = λ u kind ces are. let (url, form) = form-of _ u kind ces are in absurd (no-answer _ _ _ url kind ces c.in-Answer.ensures.0 form)

pub returns-in-Answer-clause-fetch_link : goal.returns-in-Answer-clause-fetch_link
returns-in-Answer-clause-fetch_link g c = λ is. let (u, kind, ces, are) = is in let (url, form) = form-of _ u kind ces are in absurd (no-answer _ _ _ url kind ces c.in-Answer.ensures.0 form)

pub returns-in-Answer-clause-fetch_shelf : goal.returns-in-Answer-clause-fetch_shelf
returns-in-Answer-clause-fetch_shelf g c = λ is. let (u, kind, ces, are) = is in let (url, form) = form-of _ u kind ces are in absurd (no-answer _ _ _ url kind ces c.in-Answer.ensures.0 form)

pub returns-in-Serve-clause-fetch : goal.returns-in-Serve-clause-fetch
returns-in-Serve-clause-fetch g c = λ u kind ces are. let (url, form) = form-of _ u kind ces are in absurd (no-serve _ _ _ _ url kind ces c.in-Serve.ensures form)

pub returns-in-Serve-clause-fetch_link : goal.returns-in-Serve-clause-fetch_link
returns-in-Serve-clause-fetch_link g c = λ is. let (u, kind, ces, are) = is in let (url, form) = form-of _ u kind ces are in absurd (no-serve _ _ _ _ url kind ces c.in-Serve.ensures form)

pub returns-in-Serve-clause-fetch_shelf : goal.returns-in-Serve-clause-fetch_shelf
returns-in-Serve-clause-fetch_shelf g c = λ is. let (u, kind, ces, are) = is in let (url, form) = form-of _ u kind ces are in absurd (no-serve _ _ _ _ url kind ces c.in-Serve.ensures form)

pub returns-in-Show-clause-fetch : goal.returns-in-Show-clause-fetch
returns-in-Show-clause-fetch g c = λ u kind ces are. let (url, form) = form-of _ u kind ces are in absurd (no-show _ url kind ces c.in-Show.ensures form)

pub returns-in-Show-clause-fetch_link : goal.returns-in-Show-clause-fetch_link
returns-in-Show-clause-fetch_link g c = λ is. let (u, kind, ces, are) = is in let (url, form) = form-of _ u kind ces are in absurd (no-show _ url kind ces c.in-Show.ensures form)

pub returns-in-Ver-clause-fetch : goal.returns-in-Ver-clause-fetch
returns-in-Ver-clause-fetch g c = λ u kind ces are. let (url, form) = form-of _ u kind ces are in absurd (no-ver _ url kind ces c.in-Ver.ensures form)

pub returns-in-Ver-clause-fetch_link : goal.returns-in-Ver-clause-fetch_link
returns-in-Ver-clause-fetch_link g c = λ is. let (u, kind, ces, are) = is in let (url, form) = form-of _ u kind ces are in absurd (no-ver _ url kind ces c.in-Ver.ensures form)

pub returns-in-Other-clause-fetch : goal.returns-in-Other-clause-fetch
returns-in-Other-clause-fetch g c = λ u kind ces are. absurd (c.in-Other.ensures (inr (inr (inr (inr (inl (u, kind, ces, are)))))))

pub returns-in-Other-clause-fetch_link : goal.returns-in-Other-clause-fetch_link
returns-in-Other-clause-fetch_link g c = λ is. absurd (c.in-Other.ensures (inr (inr (inr (inr (inl is))))))

pub fetch-status-requires-clause-kind : goal.fetch-status-requires-clause-kind
fetch-status-requires-clause-kind g c = form-kind _ _ _ _ c.in-Fetch.ensures

pub returns-in-Fetch-clause-fetch : goal.returns-in-Fetch-clause-fetch
returns-in-Fetch-clause-fetch g c = λ u kind ces are.
    another-fetch-line _ u kind ces _ _ _ _ _ _ c.fetch-status.result (λ none. still-said g.E.Sink.put_faults g.E.Sink.written c.args.err.now c.fetch-status.new.err c.say_line-in-Fetch.new.err (c.say_line-in-Fetch.ensures.silent none))
    (for-words _ _ _ _ _ _ _ u _ _ _ _ _ _ c.in-Fetch.ensures c.fetch-status.ensures.says are)

pub returns-in-Fetch-clause-dial : goal.returns-in-Fetch-clause-dial
returns-in-Fetch-clause-dial g c = λ no_fetch no_relay no_save. (c.fetch-status.ensures.untouched (no-url _ _ _ _ c.in-Fetch.ensures no_fetch)).0

pub returns-in-Fetch-clause-link_fault : goal.returns-in-Fetch-clause-link_fault
returns-in-Fetch-clause-link_fault g c = λ no_fetch no_save is. let clash : Words ≡ LinkFault = sym (c.fetch-status.ensures.words.1 (no-url _ _ _ _ c.in-Fetch.ensures no_fetch)) ∙ is in cc clash

pub returns-in-Fetch-clause-write_fault : goal.returns-in-Fetch-clause-write_fault
returns-in-Fetch-clause-write_fault g c = λ no_fetch no_save is. let clash : Words ≡ WriteFault = sym (c.fetch-status.ensures.words.1 (no-url _ _ _ _ c.in-Fetch.ensures no_fetch)) ∙ is in cc clash

pub returns-in-Fetch-clause-words : goal.returns-in-Fetch-clause-words
returns-in-Fetch-clause-words g c = (
  λ is command. no-command _ _ _ _ c.in-Fetch.ensures (c.fetch-status.ensures.words.0 is) command,
  λ no_one. c.fetch-status.ensures.words.1 (no-command-url _ _ _ _ c.in-Fetch.ensures no_one),
)

pub returns-in-Fetch-clause-no_command : goal.returns-in-Fetch-clause-no_command
returns-in-Fetch-clause-no_command g c = λ no_one. (refl, (c.fetch-status.ensures.untouched (no-command-url _ _ _ _ c.in-Fetch.ensures no_one)).1)

pub returns-in-Fetch-clause-answer : goal.returns-in-Fetch-clause-answer
returns-in-Fetch-clause-answer g c = λ target workers are. absurd (no-answer _ target workers _ _ _ are c.in-Fetch.ensures)

pub returns-in-Fetch-clause-answered : goal.returns-in-Fetch-clause-answered
returns-in-Fetch-clause-answered g c = λ target workers are. absurd (no-answer _ target workers _ _ _ are c.in-Fetch.ensures)

pub returns-in-Fetch-clause-answer_asks : goal.returns-in-Fetch-clause-answer_asks
returns-in-Fetch-clause-answer_asks g c = λ target workers are. absurd (no-answer _ target workers _ _ _ are c.in-Fetch.ensures)

pub returns-in-Fetch-clause-answer_asked : goal.returns-in-Fetch-clause-answer_asked
returns-in-Fetch-clause-answer_asked g c = λ target workers are. absurd (no-answer _ target workers _ _ _ are c.in-Fetch.ensures)

pub returns-in-Fetch-clause-answer_read_fault : goal.returns-in-Fetch-clause-answer_read_fault
returns-in-Fetch-clause-answer_read_fault g c = λ target workers are. absurd (no-answer _ target workers _ _ _ are c.in-Fetch.ensures)

pub returns-in-Fetch-clause-serve : goal.returns-in-Fetch-clause-serve
returns-in-Fetch-clause-serve g c = λ port workers requests are. absurd (no-serve _ port workers requests _ _ _ are c.in-Fetch.ensures)

pub returns-in-Fetch-clause-ver : goal.returns-in-Fetch-clause-ver
returns-in-Fetch-clause-ver g c = λ are. absurd (no-ver _ _ _ _ are c.in-Fetch.ensures)

pub returns-in-Fetch-clause-show : goal.returns-in-Fetch-clause-show
returns-in-Fetch-clause-show g c = λ are. absurd (no-show _ _ _ _ are c.in-Fetch.ensures)

pub returns-in-Fetch-clause-most : goal.returns-in-Fetch-clause-most
returns-in-Fetch-clause-most g c = λ are. absurd (no-show _ _ _ _ are c.in-Fetch.ensures)

pub returns-in-Fetch-clause-shows : goal.returns-in-Fetch-clause-shows
returns-in-Fetch-clause-shows g c = λ are. absurd (no-show _ _ _ _ are c.in-Fetch.ensures)

pub returns-in-Fetch-clause-read_fault : goal.returns-in-Fetch-clause-read_fault
returns-in-Fetch-clause-read_fault g c = λ are. absurd (no-show _ _ _ _ are c.in-Fetch.ensures)

pub returns-in-Soak-clause-answer : goal.returns-in-Soak-clause-answer
returns-in-Soak-clause-answer g c = λ target workers are. absurd (soak-no-answer _ target workers _ _ are c.in-Soak.ensures)

pub returns-in-Soak-clause-answered : goal.returns-in-Soak-clause-answered
returns-in-Soak-clause-answered g c = λ target workers are. absurd (soak-no-answer _ target workers _ _ are c.in-Soak.ensures)

pub returns-in-Soak-clause-answer_asks : goal.returns-in-Soak-clause-answer_asks
returns-in-Soak-clause-answer_asks g c = λ target workers are. absurd (soak-no-answer _ target workers _ _ are c.in-Soak.ensures)

pub returns-in-Soak-clause-answer_asked : goal.returns-in-Soak-clause-answer_asked
returns-in-Soak-clause-answer_asked g c = λ target workers are. absurd (soak-no-answer _ target workers _ _ are c.in-Soak.ensures)

pub returns-in-Soak-clause-answer_untouched : goal.returns-in-Soak-clause-answer_untouched
returns-in-Soak-clause-answer_untouched g c = λ target workers are. absurd (soak-no-answer _ target workers _ _ are c.in-Soak.ensures)

pub returns-in-Soak-clause-answer_read_fault : goal.returns-in-Soak-clause-answer_read_fault
returns-in-Soak-clause-answer_read_fault g c = λ target workers are. absurd (soak-no-answer _ target workers _ _ are c.in-Soak.ensures)

pub returns-in-Soak-clause-fetch : goal.returns-in-Soak-clause-fetch
returns-in-Soak-clause-fetch g c = λ u kind ces are. let (url, form) = form-of _ u kind ces are in absurd (no-soak _ _ _ url kind ces c.in-Soak.ensures form)

pub returns-in-Soak-clause-fetch_link : goal.returns-in-Soak-clause-fetch_link
returns-in-Soak-clause-fetch_link g c = λ is. let (u, kind, ces, are) = is in let (url, form) = form-of _ u kind ces are in absurd (no-soak _ _ _ url kind ces c.in-Soak.ensures form)

pub returns-in-Soak-clause-fetch_shelf : goal.returns-in-Soak-clause-fetch_shelf
returns-in-Soak-clause-fetch_shelf g c = λ is. let (u, kind, ces, are) = is in let (url, form) = form-of _ u kind ces are in absurd (no-soak _ _ _ url kind ces c.in-Soak.ensures form)

pub returns-in-Soak-clause-soak : goal.returns-in-Soak-clause-soak
returns-in-Soak-clause-soak g c = λ start records are.
    soak-for _ c.in-Soak.start c.in-Soak.records start records (Appends (g.O.Sink.written c.args.out.now) (g.O.Sink.written c.soak_lines-status.new.out)) (AppendsFront (g.O.Sink.written c.args.out.now) (g.O.Sink.written c.soak_lines-status.new.out)) c.soak_lines-status.result
    c.in-Soak.ensures c.soak_lines-status.ensures.says are

pub returns-in-Soak-clause-words : goal.returns-in-Soak-clause-words
returns-in-Soak-clause-words g c = (λ is command. c.soak_lines-status.ensures.words is, λ no_one. absurd (no_one (inr (inr (inr (inr (inr (inl (_, _, c.in-Soak.ensures)))))))))

pub returns-in-Soak-clause-no_command : goal.returns-in-Soak-clause-no_command
returns-in-Soak-clause-no_command g c = λ no_one. absurd (no_one (inr (inr (inr (inr (inr (inl (_, _, c.in-Soak.ensures))))))))

pub returns-in-Answer-clause-soak : goal.returns-in-Answer-clause-soak
returns-in-Answer-clause-soak g c = λ start records are. absurd (soak-no-answer _ _ _ start records c.in-Answer.ensures.0 are)

pub returns-in-Answer-clause-soak_shelf : goal.returns-in-Answer-clause-soak_shelf
returns-in-Answer-clause-soak_shelf g c = λ is. let (start, records, are) = is in absurd (soak-no-answer _ _ _ start records c.in-Answer.ensures.0 are)

pub returns-in-Fetch-clause-soak : goal.returns-in-Fetch-clause-soak
returns-in-Fetch-clause-soak g c = λ start records are. absurd (no-soak _ start records _ _ _ are c.in-Fetch.ensures)

pub returns-in-Fetch-clause-soak_shelf : goal.returns-in-Fetch-clause-soak_shelf
returns-in-Fetch-clause-soak_shelf g c = λ is. let (start, records, are) = is in absurd (no-soak _ start records _ _ _ are c.in-Fetch.ensures)

pub returns-in-Other-clause-soak : goal.returns-in-Other-clause-soak
returns-in-Other-clause-soak g c = λ start records are. absurd (c.in-Other.ensures (inr (inr (inr (inr (inr (inl (start, records, are))))))))

pub returns-in-Answer-clause-answer_asks_first : goal.returns-in-Answer-clause-answer_asks_first
returns-in-Answer-clause-answer_asks_first g c = λ target workers are none.
    subst (λ t. g.S.Shelf.asked c.answer-status.new.shelf ≤ g.S.Shelf.asked c.args.shelf.now + most_before (g.S.Shelf.files c.args.shelf.now) t) (same_target _ _ _ _ _ c.in-Answer.ensures.0 are) (c.answer-status.ensures.asked_first none)

pub returns-in-Fetch-clause-answer_asks_first : goal.returns-in-Fetch-clause-answer_asks_first
returns-in-Fetch-clause-answer_asks_first g c = λ target workers are. absurd (no-answer _ target workers _ _ _ are c.in-Fetch.ensures)

pub returns-in-Soak-clause-answer_asks_first : goal.returns-in-Soak-clause-answer_asks_first
returns-in-Soak-clause-answer_asks_first g c = λ target workers are. absurd (soak-no-answer _ target workers _ _ are c.in-Soak.ensures)

pub relay-status-requires-clause-host : goal.relay-status-requires-clause-host
relay-status-requires-clause-host g c = relay-host _ _ _ _ _ _ _ c.in-Relay.ensures c.as_bytes.ensures.value

pub returns-in-Relay-clause-relay : goal.returns-in-Relay-clause-relay
returns-in-Relay-clause-relay g c = λ host upport port room requests are.
    relay-for _ _ _ _ _ _ _ _ _ _ _ _ _ _ _ _ _ _ (relay-as _ _ _ _ _ _ _ c.in-Relay.ensures c.as_bytes.ensures.value) c.relay-status.ensures.relayed are

pub returns-in-Relay-clause-door : goal.returns-in-Relay-clause-door
returns-in-Relay-clause-door g c = λ no_serve no_relay. absurd (no_relay (_, _, _, _, _, c.in-Relay.ensures))

pub returns-in-Relay-clause-dial : goal.returns-in-Relay-clause-dial
returns-in-Relay-clause-dial g c = λ no_fetch no_relay no_save. absurd (no_relay (_, _, _, _, _, c.in-Relay.ensures))

pub returns-in-Relay-clause-dial_kept : goal.returns-in-Relay-clause-dial_kept
returns-in-Relay-clause-dial_kept g c = λ no_relay. absurd (no_relay (_, _, _, _, _, c.in-Relay.ensures))

pub returns-in-Relay-clause-words : goal.returns-in-Relay-clause-words
returns-in-Relay-clause-words g c = (
  λ is command. relays-no-words _ _ _ _ _ _ c.relay-status.ensures.relayed.1 is,
  λ no_one. absurd (no_one (inr (inr (inr (inr (inr (inr (inl (_, _, _, _, _, c.in-Relay.ensures))))))))),
)

pub returns-in-Relay-clause-no_command : goal.returns-in-Relay-clause-no_command
returns-in-Relay-clause-no_command g c = λ no_one. absurd (no_one (inr (inr (inr (inr (inr (inr (inl (_, _, _, _, _, c.in-Relay.ensures)))))))))

pub returns-in-Relay-clause-fetch : goal.returns-in-Relay-clause-fetch
returns-in-Relay-clause-fetch g c = λ u kind ces are. let (url, form) = form-of _ u kind ces are in absurd (no-relay _ _ _ _ _ _ url kind ces c.in-Relay.ensures form)

pub returns-in-Relay-clause-fetch_link : goal.returns-in-Relay-clause-fetch_link
returns-in-Relay-clause-fetch_link g c = λ is. let (u, kind, ces, are) = is in let (url, form) = form-of _ u kind ces are in absurd (no-relay _ _ _ _ _ _ url kind ces c.in-Relay.ensures form)

pub returns-in-Fetch-clause-relay : goal.returns-in-Fetch-clause-relay
returns-in-Fetch-clause-relay g c = λ host upport port room requests are. absurd (no-relay _ host upport port room requests _ _ _ are c.in-Fetch.ensures)

pub returns-in-Fetch-clause-relay_memory : goal.returns-in-Fetch-clause-relay_memory
returns-in-Fetch-clause-relay_memory g c = λ is. let (host, upport, port, room, requests, are) = is in absurd (no-relay _ host upport port room requests _ _ _ are c.in-Fetch.ensures)

pub returns-in-Other-clause-relay : goal.returns-in-Other-clause-relay
returns-in-Other-clause-relay g c = λ host upport port room requests are. absurd (c.in-Other.ensures (inr (inr (inr (inr (inr (inr (inl (host, upport, port, room, requests, are)))))))))

pub returns-in-Fetch-clause-save : goal.returns-in-Fetch-clause-save
returns-in-Fetch-clause-save g c = λ are. absurd (no-save _ _ _ _ are c.in-Fetch.ensures)

pub returns-in-Fetch-clause-save_read : goal.returns-in-Fetch-clause-save_read
returns-in-Fetch-clause-save_read g c = λ are. absurd (no-save _ _ _ _ are c.in-Fetch.ensures)

pub returns-in-Fetch-clause-save_url : goal.returns-in-Fetch-clause-save_url
returns-in-Fetch-clause-save_url g c = λ u ce are. let (url, form, is) = are in absurd (no-save-url _ url ce _ _ _ form c.in-Fetch.ensures)

pub returns-in-Fetch-clause-save_link : goal.returns-in-Fetch-clause-save_link
returns-in-Fetch-clause-save_link g c = λ is. let (u, ce, are) = is in let (url, form, known) = are in absurd (no-save-url _ url ce _ _ _ form c.in-Fetch.ensures)

pub returns-in-Answer-clause-save_url : goal.returns-in-Answer-clause-save_url
returns-in-Answer-clause-save_url g c = λ u ce are. let (url, form, is) = are in absurd (save-no-answer _ _ _ url ce c.in-Answer.ensures.0 form)

pub returns-in-Answer-clause-save_link : goal.returns-in-Answer-clause-save_link
returns-in-Answer-clause-save_link g c = λ is. let (u, ce, are) = is in let (url, form, known) = are in absurd (save-no-answer _ _ _ url ce c.in-Answer.ensures.0 form)

pub returns-in-Answer-clause-save_url_shelf : goal.returns-in-Answer-clause-save_url_shelf
returns-in-Answer-clause-save_url_shelf g c = λ is. let (u, ce, are) = is in let (url, form, known) = are in absurd (save-no-answer _ _ _ url ce c.in-Answer.ensures.0 form)

pub returns-in-Soak-clause-save_url : goal.returns-in-Soak-clause-save_url
returns-in-Soak-clause-save_url g c = λ u ce are. let (url, form, is) = are in absurd (save-no-soak _ _ _ url ce c.in-Soak.ensures form)

pub returns-in-Soak-clause-save_link : goal.returns-in-Soak-clause-save_link
returns-in-Soak-clause-save_link g c = λ is. let (u, ce, are) = is in let (url, form, known) = are in absurd (save-no-soak _ _ _ url ce c.in-Soak.ensures form)

pub returns-in-Other-clause-save : goal.returns-in-Other-clause-save
returns-in-Other-clause-save g c = λ are. absurd (c.in-Other.ensures (inr (inr (inr (inr (inr (inr (inr (inl are)))))))))

pub returns-in-Other-clause-save_url : goal.returns-in-Other-clause-save_url
returns-in-Other-clause-save_url g c = λ u ce are. absurd (c.in-Other.ensures (inr (inr (inr (inr (inr (inr (inr (inr (u, ce, are))))))))))

pub returns-in-Other-clause-save_link : goal.returns-in-Other-clause-save_link
returns-in-Other-clause-save_link g c = λ is. absurd (c.in-Other.ensures (inr (inr (inr (inr (inr (inr (inr (inr is)))))))))

pub returns-in-Save-clause-save : goal.returns-in-Save-clause-save
returns-in-Save-clause-save g c = λ are. another-save-line _ _ _ c.save_input-status.result (λ none. still-said g.E.Sink.put_faults g.E.Sink.written c.args.err.now c.save_input-status.new.err c.say_line-in-Save.new.err (c.say_line-in-Save.ensures.silent none)) c.save_input-status.ensures.says

pub returns-in-Save-clause-fetch : goal.returns-in-Save-clause-fetch
returns-in-Save-clause-fetch g c = λ u kind ces are. let (url, form) = form-of _ u kind ces are in absurd (no-save _ url kind ces c.in-Save.ensures form)

pub returns-in-Save-clause-fetch_link : goal.returns-in-Save-clause-fetch_link
returns-in-Save-clause-fetch_link g c = λ is. absurd (input-no-fetch _ c.in-Save.ensures is)

pub returns-in-Save-clause-save_url : goal.returns-in-Save-clause-save_url
returns-in-Save-clause-save_url g c = λ u ce are. absurd (input-no-save _ c.in-Save.ensures (u, ce, are))

pub returns-in-Save-clause-save_link : goal.returns-in-Save-clause-save_link
returns-in-Save-clause-save_link g c = λ is. absurd (input-no-save _ c.in-Save.ensures is)

pub returns-in-Save-clause-input : goal.returns-in-Save-clause-input
returns-in-Save-clause-input g c = λ no_show no_save. absurd (no_save c.in-Save.ensures)

pub returns-in-Save-clause-link_fault : goal.returns-in-Save-clause-link_fault
returns-in-Save-clause-link_fault g c = λ no_fetch no_save is. absurd (c.save_input-status.ensures.no_link is)

pub returns-in-Save-clause-words : goal.returns-in-Save-clause-words
returns-in-Save-clause-words g c = (λ is command. c.save_input-status.ensures.words is, λ no_one. absurd (no_one (inr (inr (inr (inr (inr (inr (inr (inl c.in-Save.ensures))))))))))

pub returns-in-Save-clause-no_command : goal.returns-in-Save-clause-no_command
returns-in-Save-clause-no_command g c = λ no_one. absurd (no_one (inr (inr (inr (inr (inr (inr (inr (inl c.in-Save.ensures)))))))))

pub returns-in-SaveUrl-clause-answer : goal.returns-in-SaveUrl-clause-answer
returns-in-SaveUrl-clause-answer g c = λ target workers are. absurd (save-no-answer _ target workers _ _ are c.in-SaveUrl.ensures)

pub returns-in-SaveUrl-clause-answered : goal.returns-in-SaveUrl-clause-answered
returns-in-SaveUrl-clause-answered g c = λ target workers are. absurd (save-no-answer _ target workers _ _ are c.in-SaveUrl.ensures)

pub returns-in-SaveUrl-clause-answer_asks : goal.returns-in-SaveUrl-clause-answer_asks
returns-in-SaveUrl-clause-answer_asks g c = λ target workers are. absurd (save-no-answer _ target workers _ _ are c.in-SaveUrl.ensures)

pub returns-in-SaveUrl-clause-answer_asks_first : goal.returns-in-SaveUrl-clause-answer_asks_first
returns-in-SaveUrl-clause-answer_asks_first g c = λ target workers are. absurd (save-no-answer _ target workers _ _ are c.in-SaveUrl.ensures)

pub returns-in-SaveUrl-clause-answer_asked : goal.returns-in-SaveUrl-clause-answer_asked
returns-in-SaveUrl-clause-answer_asked g c = λ target workers are. absurd (save-no-answer _ target workers _ _ are c.in-SaveUrl.ensures)

pub returns-in-SaveUrl-clause-answer_untouched : goal.returns-in-SaveUrl-clause-answer_untouched
returns-in-SaveUrl-clause-answer_untouched g c = λ target workers are. absurd (save-no-answer _ target workers _ _ are c.in-SaveUrl.ensures)

pub returns-in-SaveUrl-clause-answer_read_fault : goal.returns-in-SaveUrl-clause-answer_read_fault
returns-in-SaveUrl-clause-answer_read_fault g c = λ target workers are. absurd (save-no-answer _ target workers _ _ are c.in-SaveUrl.ensures)

pub returns-in-SaveUrl-clause-soak : goal.returns-in-SaveUrl-clause-soak
returns-in-SaveUrl-clause-soak g c = λ start records are. absurd (save-no-soak _ start records _ _ are c.in-SaveUrl.ensures)

pub returns-in-SaveUrl-clause-fetch : goal.returns-in-SaveUrl-clause-fetch
returns-in-SaveUrl-clause-fetch g c = λ u kind ces are. absurd (save-no-fetch _ _ _ c.in-SaveUrl.ensures (u, kind, ces, are))

pub returns-in-SaveUrl-clause-fetch_link : goal.returns-in-SaveUrl-clause-fetch_link
returns-in-SaveUrl-clause-fetch_link g c = λ is. absurd (save-no-fetch _ _ _ c.in-SaveUrl.ensures is)

pub returns-in-SaveUrl-clause-save_url : goal.returns-in-SaveUrl-clause-save_url
returns-in-SaveUrl-clause-save_url g c = λ u ce are.
    another-save-line _ _ _ c.save_fetched-status.result (λ none. still-said g.E.Sink.put_faults g.E.Sink.written c.args.err.now c.save_fetched-status.new.err c.say_line-in-SaveUrl.new.err (c.say_line-in-SaveUrl.ensures.silent none))
    (save-for _ _ _ _ u ce _ _ _ _ _ _ c.in-SaveUrl.ensures c.save_fetched-status.ensures.says are)

pub returns-in-SaveUrl-clause-dial : goal.returns-in-SaveUrl-clause-dial
returns-in-SaveUrl-clause-dial g c = λ no_fetch no_relay no_save. (c.save_fetched-status.ensures.untouched (no-save-known _ _ _ c.in-SaveUrl.ensures no_save)).0

pub returns-in-SaveUrl-clause-link_fault : goal.returns-in-SaveUrl-clause-link_fault
returns-in-SaveUrl-clause-link_fault g c = λ no_fetch no_save is. let clash : Words ≡ LinkFault = sym (c.save_fetched-status.ensures.words.1 (no-save-known _ _ _ c.in-SaveUrl.ensures no_save)) ∙ is in cc clash

pub returns-in-SaveUrl-clause-write_fault : goal.returns-in-SaveUrl-clause-write_fault
returns-in-SaveUrl-clause-write_fault g c = λ no_fetch no_save is. let clash : Words ≡ WriteFault = sym (c.save_fetched-status.ensures.words.1 (no-save-known _ _ _ c.in-SaveUrl.ensures no_save)) ∙ is in cc clash

pub returns-in-SaveUrl-clause-words : goal.returns-in-SaveUrl-clause-words
returns-in-SaveUrl-clause-words g c = (
  λ is command. save-only _ _ _ c.in-SaveUrl.ensures (c.save_fetched-status.ensures.words.0 is) command,
  λ no_one. c.save_fetched-status.ensures.words.1 (no-save-command _ _ _ c.in-SaveUrl.ensures no_one),
)

pub returns-in-SaveUrl-clause-no_command : goal.returns-in-SaveUrl-clause-no_command
returns-in-SaveUrl-clause-no_command g c = λ no_one. (refl, (c.save_fetched-status.ensures.untouched (no-save-command _ _ _ c.in-SaveUrl.ensures no_one)).1)

pub returns-in-Show-clause-show : goal.returns-in-Show-clause-show
returns-in-Show-clause-show g c = λ are.
    another_show_line _ _ _ _ _ _ (λ line. IsSaid line (g.E.Sink.put_faults c.args.err.now) (g.E.Sink.put_faults c.show_input-status.new.err) (g.E.Sink.written c.args.err.now) (g.E.Sink.written c.show_input-status.new.err)) (λ line. IsSaid line (g.E.Sink.put_faults c.args.err.now) (g.E.Sink.put_faults c.say_line-in-Show.new.err) (g.E.Sink.written c.args.err.now) (g.E.Sink.written c.say_line-in-Show.new.err)) c.show_input-status.result
    (λ none. still-said g.E.Sink.put_faults g.E.Sink.written c.args.err.now c.show_input-status.new.err c.say_line-in-Show.new.err (c.say_line-in-Show.ensures.silent none)) c.show_input-status.ensures.says

pub returns-in-Show-clause-shows : goal.returns-in-Show-clause-shows
returns-in-Show-clause-shows g c = λ are body v has is still quiet had.
    told_status v c.show_input-status.result _ _ c.show_input-status.ensures.read_fault c.show_input-status.ensures.write_fault still quiet had (c.show_input-status.ensures.verdict body v has is)

pub returns-in-Answer-clause-said : goal.returns-in-Answer-clause-said
returns-in-Answer-clause-said g c = first-said g.E.Sink.put_faults g.E.Sink.written c.args.err.now c.answer-status.new.err c.say_line.new.err (line_of c.answer-status.result)
    (λ l is. c.answer-status.ensures.quiet (λ was. cc (is ∙ ap line_of was)) (λ was. cc (is ∙ ap line_of was))) c.say_line.ensures.said

pub returns-in-Answer-clause-silent : goal.returns-in-Answer-clause-silent
returns-in-Answer-clause-silent g c = λ is. c.say_line.ensures.silent (ap line_of is) ∙ c.answer-status.ensures.quiet (λ was. cc (sym is ∙ was)) (λ was. cc (sym is ∙ was))

pub returns-in-Show-clause-said : goal.returns-in-Show-clause-said
returns-in-Show-clause-said g c = first-said g.E.Sink.put_faults g.E.Sink.written c.args.err.now c.show_input-status.new.err c.say_line-in-Show.new.err (line_of c.show_input-status.result)
    (λ l is. c.show_input-status.ensures.quiet (λ was. cc (is ∙ ap line_of was)) (λ was. cc (is ∙ ap line_of was))) c.say_line-in-Show.ensures.said

pub returns-in-Show-clause-silent : goal.returns-in-Show-clause-silent
returns-in-Show-clause-silent g c = λ is. c.say_line-in-Show.ensures.silent (ap line_of is) ∙ c.show_input-status.ensures.quiet (λ was. cc (sym is ∙ was)) (λ was. cc (sym is ∙ was))

pub returns-in-Fetch-clause-said : goal.returns-in-Fetch-clause-said
returns-in-Fetch-clause-said g c = first-said g.E.Sink.put_faults g.E.Sink.written c.args.err.now c.fetch-status.new.err c.say_line-in-Fetch.new.err (line_of c.fetch-status.result)
    (λ l is. c.fetch-status.ensures.quiet (λ was. cc (is ∙ ap line_of was)) (λ was. cc (is ∙ ap line_of was))) c.say_line-in-Fetch.ensures.said

pub returns-in-Fetch-clause-silent : goal.returns-in-Fetch-clause-silent
returns-in-Fetch-clause-silent g c = λ is. c.say_line-in-Fetch.ensures.silent (ap line_of is) ∙ c.fetch-status.ensures.quiet (λ was. cc (sym is ∙ was)) (λ was. cc (sym is ∙ was))

pub returns-in-Save-clause-said : goal.returns-in-Save-clause-said
returns-in-Save-clause-said g c = first-said g.E.Sink.put_faults g.E.Sink.written c.args.err.now c.save_input-status.new.err c.say_line-in-Save.new.err (line_of c.save_input-status.result)
    (λ l is. c.save_input-status.ensures.quiet (λ was. cc (is ∙ ap line_of was)) (λ was. cc (is ∙ ap line_of was)) (λ was. cc (is ∙ ap line_of was))) c.say_line-in-Save.ensures.said

pub returns-in-Save-clause-silent : goal.returns-in-Save-clause-silent
returns-in-Save-clause-silent g c = λ is. c.say_line-in-Save.ensures.silent (ap line_of is) ∙ c.save_input-status.ensures.quiet (λ was. cc (sym is ∙ was)) (λ was. cc (sym is ∙ was)) (λ was. cc (sym is ∙ was))

pub returns-in-SaveUrl-clause-said : goal.returns-in-SaveUrl-clause-said
returns-in-SaveUrl-clause-said g c = first-said g.E.Sink.put_faults g.E.Sink.written c.args.err.now c.save_fetched-status.new.err c.say_line-in-SaveUrl.new.err (line_of c.save_fetched-status.result)
    (λ l is. c.save_fetched-status.ensures.quiet (λ was. cc (is ∙ ap line_of was)) (λ was. cc (is ∙ ap line_of was)) (λ was. cc (is ∙ ap line_of was))) c.say_line-in-SaveUrl.ensures.said

pub returns-in-SaveUrl-clause-silent : goal.returns-in-SaveUrl-clause-silent
returns-in-SaveUrl-clause-silent g c = λ is. c.say_line-in-SaveUrl.ensures.silent (ap line_of is) ∙ c.save_fetched-status.ensures.quiet (λ was. cc (sym is ∙ was)) (λ was. cc (sym is ∙ was)) (λ was. cc (sym is ∙ was))

pub returns-in-Serve-clause-silent : goal.returns-in-Serve-clause-silent
returns-in-Serve-clause-silent g c = λ is. c.say_line-in-Serve.ensures.silent (ap line_of is)

pub returns-in-Ver-clause-silent : goal.returns-in-Ver-clause-silent
returns-in-Ver-clause-silent g c = λ is. c.say_line-in-Ver.ensures.silent (ap line_of is)

pub returns-in-Soak-clause-silent : goal.returns-in-Soak-clause-silent
returns-in-Soak-clause-silent g c = λ is. c.say_line-in-Soak.ensures.silent (ap line_of is)

pub returns-in-Relay-clause-silent : goal.returns-in-Relay-clause-silent
returns-in-Relay-clause-silent g c = λ is. c.say_line-in-Relay.ensures.silent (ap line_of is)

pub returns-in-Other-clause-silent : goal.returns-in-Other-clause-silent
returns-in-Other-clause-silent g c = λ is. cc is
