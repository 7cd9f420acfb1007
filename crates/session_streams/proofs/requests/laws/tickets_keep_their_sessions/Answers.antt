use Rattle.session_streams.proofs.requests_lemmas.Tickets.{tickets_keep}
use Rattle.session_streams.proofs.requests.laws.tickets_keep_their_sessions.Goals as goal

pub returns : goal.returns
returns c = tickets_keep c.lines_close_one.ensures
