use Rattle.site_core.proofs.office.Office.receive.Goals as goal

pub returns : goal.returns
returns c =
    c.what_is_read_is_received.ensures c.args.self.now c.args.tag c.args.bytes.now c.decode-read.result c.take_read.result c.take_read.new.self
    (record { found = c.decode-read.ensures.found; only = c.decode-read.ensures.only; fault = c.decode-read.ensures.fault }) c.take_read.ensures
