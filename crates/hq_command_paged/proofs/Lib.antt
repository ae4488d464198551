mod ServedOnDisk
