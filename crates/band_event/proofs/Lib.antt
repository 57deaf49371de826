mod Queues
