-- The pieces of payloads, and the numbers of PDUs that payloads show. Read the files in this order.
pub mod Counting
pub mod Payload
